use Rattle.std.proofs.Common.{◌≤◌, ℕ, ap, sym, subst, ◌∙◌, arith}
use Rattle.std.proofs.lemmas.Grind.{merely}
use Rattle.sched_base.specs.declared.limits.TheConstants.{MAX_ENTRIES, MAX_LOAD, MAX_THREADS}
use Rattle.round_model.specs.Cores.{seen_of}
use Rattle.core_state.specs.Logs.{after_last}
use Rattle.core_table.specs.declared.views.View.{View}
use Rattle.core_table.specs.Told.{IsKnown}
use Rattle.core_table.specs.Opened.{emptied}
use Rattle.core_table.specs.Public.{view_of}
use Rattle.core_table.specs.Views.{is_live}
use Rattle.core_table.specs.Words.{word_of}
use Rattle.core_table.proofs.Histories.{version_core}
use Rattle.core_table.proofs.Known.{inside, last_small, load_small, nr_small, published_as, published_slots}
use Rattle.core_table.proofs.seat.Table.publish.Goals as goal

pub end_of-requires : goal.end_of-requires
end_of-requires c = let s = c.args.seat.now in let h = c.args.held.now in let low = inside c.args.self.now s h.core c.requires.seat c.requires.core in
    subst (λ log. after_last 0 log ≤ MAX_ENTRIES) (sym c.entries.ensures) (last_small (view_of s) h.core h.state low s.known c.requires.held)

pub nr-requires : goal.nr-requires
nr-requires c = let s = c.args.seat.now in let h = c.args.held.now in nr_small (view_of s) h.core h.state (inside c.args.self.now s h.core c.requires.seat c.requires.core) s.known c.requires.held

pub load-requires : goal.load-requires
load-requires c = let s = c.args.seat.now in let h = c.args.held.now in load_small (view_of s) h.core h.state (inside c.args.self.now s h.core c.requires.seat c.requires.core) s.known c.requires.held

pub pack-word-requires-clause-version : goal.pack-word-requires-clause-version
pack-word-requires-clause-version c = let s = c.args.seat.now in let h = c.args.held.now in let low = inside c.args.self.now s h.core c.requires.seat c.requires.core in
    subst (λ (n : ℕ). n ≤ MAX_ENTRIES) (sym (c.end_of.ensures ∙ ap (after_last 0) c.entries.ensures)) (last_small (view_of s) h.core h.state low s.known c.requires.held)

pub pack-word-requires-clause-nr : goal.pack-word-requires-clause-nr
pack-word-requires-clause-nr c = let s = c.args.seat.now in let h = c.args.held.now in
    subst (λ (n : ℕ). n ≤ MAX_THREADS) (sym c.nr.ensures) (nr_small (view_of s) h.core h.state (inside c.args.self.now s h.core c.requires.seat c.requires.core) s.known c.requires.held)

pub pack-word-requires-clause-load : goal.pack-word-requires-clause-load
pack-word-requires-clause-load c = let s = c.args.seat.now in let h = c.args.held.now in
    subst (λ (n : ℕ). n ≤ MAX_LOAD) (sym c.load.ensures) (load_small (view_of s) h.core h.state (inside c.args.self.now s h.core c.requires.seat c.requires.core) s.known c.requires.held)

pub publish-requires-clause-held : goal.publish-requires-clause-held
publish-requires-clause-held c = let s = c.args.seat.now in let h = c.args.held.now in let low = inside c.args.self.now s h.core c.requires.seat c.requires.core in (
  h.state,
  c.requires.held,
  c.pack-word.ensures.sum ∙ ((λ i. word_of ((c.end_of.ensures ∙ ap (after_last 0) c.entries.ensures) i) (record { nr = c.nr.ensures i; load = c.load.ensures i }))
      ∙ ap (λ v. word_of v (seen_of h.state.core)) (sym (version_core (view_of s).plan.cores h.core h.state.log (λ e. let l = low in omega arith)))),
)

pub invariant_of-seat : goal.invariant_of-seat
invariant_of-seat c = let s = c.args.seat.now in let e = c.publish.ensures.written in let v = ap (λ m. m.0) e.now in record {
  carries = ap (λ m. m.1) e.now ∙ (s.carries ∙ (sym (published_slots s.place.me.0.plan.cores c.args.held.now.core s.place.me.0.held) ∙ ap (λ (w : View). emptied w.held) (sym v)));
  starts = s.starts ∙ ap (λ (w : View). w.start) (sym v);
  live = ap (λ (w : View). is_live w.role) v ∙ s.live;
  known = merely (subst IsKnown (sym v) e.known);
}

pub returns : goal.returns
returns c = let s = c.args.seat.now in let h = c.args.held.now in let e = c.publish.ensures.written in let v = ap (λ m. m.0) e.now in let low = inside c.args.self.now s h.core c.requires.seat c.requires.core in
    let word = c.pack-word.ensures.sum ∙ (λ i. word_of ((c.end_of.ensures ∙ ap (after_last 0) c.entries.ensures) i) (record { nr = c.nr.ensures i; load = c.load.ensures i })) in
    let is = published_as s.place.me.0 h.core c.pack-word.result h.state (last_small (view_of s) h.core h.state low s.known c.requires.held) (nr_small (view_of s) h.core h.state low s.known c.requires.held) (load_small (view_of s) h.core h.state low s.known c.requires.held) word in record {
      seen = record {
        of = record {
          table = c.publish.ensures.table.0 ∙ c.requires.seat.table;
          opening = record { policy = ap (λ (w : View). w.policy) v ∙ c.requires.seat.opening.policy; plan = ap (λ (w : View). w.plan) v ∙ c.requires.seat.opening.plan };
        };
        view = v ∙ is;
        known = subst IsKnown is e.known;
      };
    }
