-- Where it was too long, some text that is may be the file's.
use Rattle.std.proofs.Common.{inl, inr, refl, arith}
use Rattle.ipanema_cli.specs.Texts.{room_of}
use Rattle.ipanema_cli.proofs.LongLemmas.{some_long_text}
use Rattle.ipanema_cli.proofs.files.load.Goals as goal

pub returns-in-Err-TooLong-clause-stop : goal.returns-in-Err-TooLong-clause-stop
returns-in-Err-TooLong-clause-stop g c =
    let ensures = rw c.in-Err-TooLong.field-0-is at c.in-Err-TooLong.ensures in (
      refl,
      some_long_text (g.F.Files.told c.args.files.now c.args.name.now) (room_of c.args.kind)
          (λ h. elim (ensures.missing h) [ inl failed ↦ cc | inr memory ↦ cc ])
          (λ bytes h. let long = ensures.too_long refl bytes h in omega (arith, long, c.room.ensures)),
    )
