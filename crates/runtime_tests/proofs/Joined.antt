-- The logs of the merged histories.
use Rattle.std.proofs.Common.{◌≡◌, ℕ, zero, suc, ◌<◌, [], Some, slice_get, refl, sym, ap, ◌∙◌, arith}
use Rattle.std.specs.Prelude.{IsTrue, ◌==◌, ◌||◌}
use Rattle.std.proofs.lemmas.Bool.Decides.{nat_tests}
use Rattle.std.proofs.lemmas.List.Elements.{All-from_recursion, All-nil}
use Rattle.round_model.specs.declared.entry.Entry.{Entry}
use Rattle.round_model.specs.Entries.{touches}
use Rattle.core_state.specs.Logs.{log_of}
use Rattle.history_merge.specs.Merged.{AreLogsOfFew}
use Rattle.core_state.specs.Views.{CoreView}
use Rattle.runtime_tests.specs.Merged.{first_log, no_logs, second_log, two_logs, with_a_steal, with_log}

first_is : first_log ≡ log_of 0 with_a_steal
unfolding touches
first_is = refl

second_is : second_log ≡ log_of 1 with_a_steal
unfolding touches
second_is = refl

logs_are : (c : ℕ) (y : CoreView) → slice_get two_logs.cores c ≡ Some y → y.log ≡ log_of c with_a_steal
logs_are zero y is = let same : with_log first_log ≡ y = cc in ap (λ (v : CoreView). v.log) (sym same) ∙ first_is
logs_are (suc zero) y is = let same : with_log second_log ≡ y = cc in ap (λ (v : CoreView). v.log) (sym same) ∙ second_is
logs_are (suc (suc c)) y is = absurd (cc)

-- one of the first two cores is touched, and no other
TouchesTwo : Entry → Type 0
TouchesTwo e = (c : ℕ) → IsTrue (touches c e) → c < 2

of_two : (at c : ℕ) → at < 2 → IsTrue (at == c) → c < 2
of_two at c few same = grind arith

one_of_two : (at other c : ℕ) → at < 2 → other < 2 → IsTrue ((at == c) || (other == c)) → c < 2
one_of_two at other c few less same = grind (arith, nat_tests)

pub two_logs_of_few : AreLogsOfFew two_logs
unfolding touches TouchesTwo
two_logs_of_few = (
  with_a_steal,
  record {
    cores = logs_are;
    rounds = refl;
    there = All-from_recursion TouchesTwo with_a_steal (
      λ c touched. absurd (cc),
      (
        λ c touched. of_two 0 c (omega arith) touched,
        (
          λ c touched. of_two 1 c (omega arith) touched,
          (
            λ c touched. one_of_two 1 0 c (omega arith) (omega arith) touched,
            (λ c touched. of_two 0 c (omega arith) touched, (λ c touched. absurd (cc), tt)),
          ),
        ),
      ),
    );
  },
  omega arith,
)

pub no_logs_of_few : AreLogsOfFew no_logs
no_logs_of_few = ([], record { cores = λ c y is. absurd (cc); rounds = refl; there = All-nil _ }, omega arith)
