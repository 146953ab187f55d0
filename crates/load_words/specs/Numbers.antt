-- The numbers of load words, said a second time, so that none is changed by a slip.
use Rattle.std.specs.Prelude.{◌≡◌}
use Rattle.sched_base.specs.declared.limits.TheConstants.{MAX_ENTRIES, MAX_LOAD, MAX_THREADS}
use Rattle.load_words.specs.declared.packing.TheConstants.{LOAD_BITS, NR_BITS}
use Rattle.load_words.specs.Packed.{packed}

-- each width is this number of bits
pub record BitsAreSaid : Type 0 where
  pub load : LOAD_BITS ≡ 30
  pub nr : NR_BITS ≡ 10

-- the word of the greatest numbers is this one
abbrev pub GreatestWordIsSaid : Type 0
GreatestWordIsSaid = packed MAX_ENTRIES MAX_THREADS MAX_LOAD ≡ 72058693548506113
