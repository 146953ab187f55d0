-- Where no more was read than the limit, the reader had no more.
use Rattle.std.proofs.Common.{◌≡◌, ℕ, ◌+◌, ◌-◌, ◌<◌, ◌≤◌, ◌^◌, List, [], ◌++◌, length, min, take, Option, Some, None, arith, ap, subst, ◌∙◌}
use Rattle.std.proofs.lemmas.List.{length-take, take_all}
use Rattle.std.specs.Prelude.{IfSome, option_map}
use Rattle.sched_io.proofs.disk_files.load_from.Goals as goal

-- what was read up to one byte past the limit is all that is left, where it keeps to the limit
all_left : (told : Option (List ℕ)) (bytes : List ℕ) (limit front : ℕ) → IfSome (option_map (take front) told) (λ xs. bytes ≡ [] ++ xs)
    → front ≡ min (limit + 1) (2 ^ 64 - 1) → length bytes ≤ limit → length bytes < 2 ^ 63 → IfSome told (λ left. bytes ≡ left)
all_left None bytes limit front read is within small = tt
all_left (Some left) bytes limit front read is within small =
    let long : length bytes ≡ min front (length left) = ap length read ∙ length-take front left in
    let enough : length left ≤ front = omega arith in
    read ∙ take_all front left enough

pub returns-in-Ok-clause-bytes : goal.returns-in-Ok-clause-bytes
returns-in-Ok-clause-bytes g c =
    let bytes : List ℕ = c.read_to_end.new.buf.items in
    let vec = c.read_to_end.new.buf in
    let read = c.in-Ok.ensures.bytes in
    subst (λ r. IfSome (g.S.Read.remaining r) (λ left. bytes ≡ left)) c.take-front.ensures.inner
    (all_left (g.S.Read.remaining c.take-front.result.inner) bytes c.args.limit c.take-front.result.limit (rw c.new-bytes.ensures.items at read)
    (c.take-front.ensures.limit ∙ c.saturating_add.ensures) (omega (arith, vec.ok)) (omega (arith, vec.ok, vec.small)))
