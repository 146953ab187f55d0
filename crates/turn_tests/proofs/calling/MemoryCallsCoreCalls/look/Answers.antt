use Rattle.std.proofs.Common.{[], refl, sym, subst, arith}
use Rattle.select_phase.specs.Seen.{AreLast, AreLate}
use Rattle.select_phase.proofs.Deciding.{all_fit, has_looked}
use Rattle.turn_tests.specs.Memory.{core_of, meaning_in_memory, plan_of, view_of}
use Rattle.turn_tests.proofs.Reading.{fresh_last}
use Rattle.turn_tests.proofs.Stepping.{fresh_late}
use Rattle.turn_tests.proofs.calling.MemoryCallsCoreCalls.look.Goals as goal

pub choice-requires-clause-values : goal.choice-requires-clause-values
choice-requires-clause-values g c =
    let it = c.args.self.now in let e = c.values_read-values.ensures in
    all_fit (view_of it) c.fresh_reads-reads.result c.values_read-values.result (plan_of it).cores (meaning_in_memory it) refl refl e.known e.read

pub returns-clause-looked : goal.returns-clause-looked
returns-clause-looked g c =
    let it = c.args.self.now in let e = c.values_read-values.ensures in
    record {
      by = refl;
      looked = has_looked (view_of it) c.fresh_reads-reads.result c.values_read-values.result (plan_of it).cores (meaning_in_memory it) refl refl e.known e.read
          (core_of it) c.choice.result c.requires.ready.agrees.role.there c.choice.ensures.choice c.choice.ensures.there;
      late = subst (AreLate (view_of it)) (sym c.fresh_reads-reads.ensures) (fresh_late it c.requires.ready);
      read = record { more = []; is = refl };
      last = subst (AreLast (view_of it)) (sym c.fresh_reads-reads.ensures) (fresh_last it);
      all = omega arith;
    }
