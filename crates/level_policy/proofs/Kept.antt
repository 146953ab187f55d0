-- A policy with another filter and another choice: what else stands in it is resolved as before.
use Rattle.std.proofs.Common.{List, get_or, Option, Some, None}
use Rattle.policy_tree.specs.declared.typed.Event.{Event}
use Rattle.policy_tree.specs.declared.typed.Event.TheVariants as event
use Rattle.policy_tree.specs.Meaning.{BatchTree, CaseTree, KeyTree, Meaning, PlaceTree, SetTree, cases_on, greatest_first, here, least, least_first, preferring}
use Rattle.policy_tree.specs.Trees.{CondTree, ExprTree, always, negated, both, either, test}
use Rattle.policy_eval.specs.Forms.{EachSide}
use Rattle.policy_eval.specs.Resolved.{HasResolvedBatch, IsResolved, IsResolvedCase, IsResolvedCond, IsResolvedExpr, IsResolvedHandler, IsResolvedKey, IsResolvedOrder, IsResolvedPlace, IsResolvedSet}
use Rattle.policy_eval.specs.Sites.{Site, choosing, electing, filtering, going_on, handling, placing, stealing}

pub EachSide-mono : (P Q : ExprTree → Type 0) → ((e : ExprTree) → P e → Q e) → (c : CondTree) → EachSide P c → EachSide Q c
EachSide-mono P Q more always sides = tt
EachSide-mono P Q more (negated c) sides = EachSide-mono P Q more c sides
EachSide-mono P Q more (both l r) sides = (EachSide-mono P Q more l sides.0, EachSide-mono P Q more r sides.1)
EachSide-mono P Q more (either l r) sides = (EachSide-mono P Q more l sides.0, EachSide-mono P Q more r sides.1)
EachSide-mono P Q more (test how l r) sides = (more l sides.0, more r sides.1)

module _ (p : Meaning) (filter : CondTree) (choose : List KeyTree) where
  -- the policy with that filter and that order of choice
  abbrev pub changed : Meaning
  changed = record p { filter = filter; choose = choose }

  pub kept_expr : (site : Site) (e : ExprTree) → IsResolvedExpr p site e → IsResolvedExpr changed site e
  kept_expr filtering e is = record { linear = is.linear; few = is.few; allowed = is.allowed }
  kept_expr choosing e is = record { linear = is.linear; few = is.few; allowed = is.allowed }
  kept_expr placing e is = record { linear = is.linear; few = is.few; allowed = is.allowed }
  kept_expr electing e is = record { linear = is.linear; few = is.few; allowed = is.allowed }
  kept_expr stealing e is = record { linear = is.linear; few = is.few; allowed = is.allowed }
  kept_expr going_on e is = record { linear = is.linear; few = is.few; allowed = is.allowed }
  kept_expr (handling event.Enqueue) e is = record { linear = is.linear; few = is.few; allowed = is.allowed }
  kept_expr (handling event.Tick) e is = record { linear = is.linear; few = is.few; allowed = is.allowed }
  kept_expr (handling event.Yield) e is = record { linear = is.linear; few = is.few; allowed = is.allowed }
  kept_expr (handling event.Block) e is = record { linear = is.linear; few = is.few; allowed = is.allowed }

  -- what a filter may refer to, a key of the choice may too
  pub chosen_expr : (e : ExprTree) → IsResolvedExpr p filtering e → IsResolvedExpr changed choosing e
  chosen_expr e is = record { linear = is.linear; few = is.few; allowed = is.allowed }

  kept_cond : (site : Site) (c : CondTree) → IsResolvedCond p site c → IsResolvedCond changed site c
  kept_cond site c is = record { few = is.few; sides = EachSide-mono (IsResolvedExpr p site) (IsResolvedExpr changed site) (kept_expr site) c is.sides }

  pub kept_key : (site : Site) (key : KeyTree) → IsResolvedKey p site key → IsResolvedKey changed site key
  kept_key site (least_first e) is = kept_expr site e is
  kept_key site (greatest_first e) is = kept_expr site e is
  kept_key site (preferring c) is = kept_cond site c is

  kept_order : (site : Site) (order : List KeyTree) → IsResolvedOrder p site order → IsResolvedOrder changed site order
  kept_order site order is = record { few = is.few; keys = λ k d inside. kept_key site (get_or order k d) (is.keys k d inside) }

  kept_set : (e : Event) (s : SetTree) → IsResolvedSet p e s → IsResolvedSet changed e s
  kept_set e s is = record { declared = is.declared; value = kept_expr (handling e) s.expr is.value }

  kept_case : (e : Event) (c : CaseTree) → IsResolvedCase p e c → IsResolvedCase changed e c
  kept_case e c is = record {
    guard = kept_cond (handling e) c.guard is.guard;
    few = is.few;
    sets = λ k d inside. kept_set e (get_or c.sets k d) (is.sets k d inside);
    put = is.put;
  }

  kept_handler : (e : Event) → IsResolvedHandler p e → IsResolvedHandler changed e
  kept_handler e is = record { few = is.few; cases = λ k d inside. kept_case e (get_or (cases_on p.handlers e) k d) (is.cases k d inside) }

  kept_place : (place : PlaceTree) → IsResolvedPlace p place → IsResolvedPlace changed place
  kept_place here is = tt
  kept_place (least e) is = kept_expr placing e is

  kept_batch : (batch : Option BatchTree) → HasResolvedBatch p batch → HasResolvedBatch changed batch
  kept_batch None is = tt
  kept_batch (Some b) is = record { condition = kept_cond going_on b.condition is.condition; some = is.some; few = is.few }

  pub changed_resolved : IsResolved p → IsResolvedCond changed filtering filter → IsResolvedOrder changed choosing choose → IsResolved changed
  changed_resolved is filters chooses = record {
    load = is.load;
    core_attrs = is.core_attrs;
    thread_attrs = is.thread_attrs;
    place = kept_place p.place is.place;
    elect = kept_order electing p.elect is.elect;
    handlers = λ e. kept_handler e (is.handlers e);
    filter = filters;
    choose = chooses;
    steal = kept_order stealing p.steal is.steal;
    batch = kept_batch p.batch is.batch;
  }
