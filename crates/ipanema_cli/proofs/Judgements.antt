-- What the answers to a history that was judged are worth, where the three files were read and the policy is accepted.
use Rattle.std.proofs.Common.{◌≡◌, ℕ, inl, inr, List, Option, refl, sym, arith, subst}
use Rattle.sched_io.specs.Told.{Told}
use Rattle.sched_io.specs.Written.{Adds}
use Rattle.policy_eval.specs.Obligations.{MeetsObligations}
use Rattle.policy_tree.specs.Meaning.{Meaning}
use Rattle.policy_checker.proofs.True.{meets}
use Rattle.round_model.specs.declared.entry.Entry.{Entry}
use Rattle.round_model.specs.declared.plan.Plan.{Plan}
use Rattle.round_model.specs.Legal.{Whole}
use Rattle.job_trace.specs.declared.trace.Numbered.{Numbered}
use Rattle.job_trace.specs.Plans.{SpellsPlan}
use Rattle.trace_play.specs.declared.fault.LineFault.{LineFault}
use Rattle.trace_play.specs.Plays.{HasFault, MeansPlan}
use Rattle.trace_play.proofs.OnePlay.{never_faulty, one_plan, one_trace}
use Rattle.history_reader.specs.Reading.{IsFirstBadLine, SpellsHistory}
use Rattle.history_reader.proofs.WholeTexts.{not_both, one_history}
use Rattle.history_judge.proofs.Judged.{one_judgement}
use Rattle.history_replay.specs.declared.refusal.HistoryRefusal.{HistoryRefusal}
use Rattle.history_replay.specs.declared.refusal.HistoryRefusal.TheVariants as no_history
use Rattle.history_replay.specs.Judges.{Gives, GiveNone, HasRefusal}
use Rattle.history_replay.specs.Lines as histories
use Rattle.round_laws.proofs.MainTheorem.{main_theorem}
use Rattle.ipanema_cli.specs.PolicyAnswers.{IsAccepted}
use Rattle.ipanema_cli.specs.Status.{code_of, history_refusal_status}
use Rattle.ipanema_cli.specs.Texts.{MayRead}
use Rattle.ipanema_cli.specs.CheckTruths.{Spells}
use Rattle.ipanema_cli.specs.JudgeTruths.{DoHoldAll, JudgesTruly, MayJudge, MustJudge, Saying, SaysNotWhole}
use Rattle.ipanema_cli.specs.JudgeTruths.{illegal, short}
use Rattle.ipanema_cli.specs.declared.texts.TextKind.TheVariants as kind
use Rattle.ipanema_cli.proofs.PolicyFacts.{judged_refuses, resolved, same_policy, text_read}

-- the three files were read, and the policy is accepted
pub record Read (policy trace history : Told) (text jobs lines : List ℕ) (p : Meaning) : Type 0 where
  pub policy_read : MayRead kind.Policy policy text
  pub trace_read : MayRead kind.Trace trace jobs
  pub history_read : MayRead kind.History history lines
  pub accepted : IsAccepted text p

-- what else the same texts give is the same
record SameGiven (plan other : Plan) (entries others : List Entry) : Type 0 where
  same_plan : plan ≡ other
  same_entries : entries ≡ others

same_means : (p : Meaning) (jobs : List ℕ) (plan other : Plan) → MeansPlan p jobs plan → MeansPlan p jobs other → plan ≡ other
same_means p jobs plan other first second =
    let same = one_trace jobs first.trace second.trace first.spells second.spells in
    one_plan p second.trace plan other (subst (λ (l : List Numbered). SpellsPlan p l plan) same first.means) second.means

same_given : (p : Meaning) (jobs lines : List ℕ) (plan other : Plan) (entries others : List Entry) → Gives p jobs lines plan entries → Gives p jobs lines other others
    → SameGiven plan other entries others
same_given p jobs lines plan other entries others one two =
    let same = same_means p jobs plan other one.means two.means in
    record {
      same_plan = same;
      same_entries = one_history plan.cores lines entries others one.spells
          (subst (λ (x : Plan). SpellsHistory x.cores lines others) (sym same) two.spells);
    }

module _ (policy trace history : Told) (text jobs lines : List ℕ) (p : Meaning) (read : Read policy trace history text jobs lines p) where
  -- the policy that the file holds is the one that was read
  the_policy : (other : Meaning) → Spells policy other → p ≡ other
  the_policy other held = same_policy policy text p other read.policy_read read.accepted.spells held

  -- an accepted policy meets its obligations, and so does the one that is held
  met : MeetsObligations p
  met = meets p (resolved policy text p read.policy_read read.accepted.spells) read.accepted.certified

  still_met : (other : Meaning) → Spells policy other → MeetsObligations other
  still_met other held = subst MeetsObligations (the_policy other held) met

  -- what the texts that are held give was given by those that were read
  still_given : (other : Meaning) (also_jobs also_lines : List ℕ) (plan : Plan) (entries : List Entry) → DoHoldAll policy trace history other also_jobs also_lines
      → Gives other also_jobs also_lines plan entries → Gives p jobs lines plan entries
  still_given other also_jobs also_lines plan entries held gives =
      let same_jobs = text_read kind.Trace trace jobs also_jobs read.trace_read held.trace_held in
      let same_lines = text_read kind.History history lines also_lines read.history_read held.history_held in
      subst (λ (q : Meaning). Gives q jobs lines plan entries) (sym (the_policy other held.spells))
      (subst (λ (t : List ℕ). Gives other t lines plan entries) (sym same_jobs)
      (subst (λ (t : List ℕ). Gives other also_jobs t plan entries) (sym same_lines) gives))

  still_faulty : (other : Meaning) (also_jobs also_lines : List ℕ) (fault : LineFault) → DoHoldAll policy trace history other also_jobs also_lines
      → HasFault other also_jobs fault → HasFault p jobs fault
  still_faulty other also_jobs also_lines fault held has =
      subst (λ (q : Meaning). HasFault q jobs fault) (sym (the_policy other held.spells))
      (subst (λ (t : List ℕ). HasFault other t fault) (sym (text_read kind.Trace trace jobs also_jobs read.trace_read held.trace_held)) has)

  still_means : (other : Meaning) (also_jobs also_lines : List ℕ) (also : Plan) → DoHoldAll policy trace history other also_jobs also_lines
      → MeansPlan other also_jobs also → MeansPlan p jobs also
  still_means other also_jobs also_lines also held means =
      subst (λ (q : Meaning). MeansPlan q jobs also) (sym (the_policy other held.spells))
      (subst (λ (t : List ℕ). MeansPlan other t also) (sym (text_read kind.Trace trace jobs also_jobs read.trace_read held.trace_held)) means)

  still_bad : (other : Meaning) (also_jobs also_lines : List ℕ) (plan also : Plan) (line : ℕ) → MeansPlan p jobs plan
      → DoHoldAll policy trace history other also_jobs also_lines → MeansPlan other also_jobs also
      → IsFirstBadLine also.cores also_lines line → IsFirstBadLine plan.cores lines line
  still_bad other also_jobs also_lines plan also line here held means bad =
      subst (λ (t : List ℕ). IsFirstBadLine plan.cores t line) (sym (text_read kind.History history lines also_lines read.history_read held.history_held))
      (subst (λ (x : Plan). IsFirstBadLine x.cores also_lines line) (sym (same_means p jobs plan also here (still_means other also_jobs also_lines also held means))) bad)

  still_whole : (other : Meaning) (also_jobs also_lines : List ℕ) (plan also : Plan) (entries others : List Entry) → Gives p jobs lines plan entries
      → DoHoldAll policy trace history other also_jobs also_lines → Gives other also_jobs also_lines also others → Whole other also others → Whole p plan entries
  still_whole other also_jobs also_lines plan also entries others gives held also_gives is =
      let same = same_given p jobs lines plan also entries others gives (still_given other also_jobs also_lines also others held also_gives) in
      subst (λ (q : Meaning). Whole q plan entries) (sym (the_policy other held.spells))
      (subst (λ (x : Plan). Whole other x entries) (sym same.same_plan)
      (subst (λ (es : List Entry). Whole other also es) (sym same.same_entries) is))

  whole_still : (other : Meaning) (also_jobs also_lines : List ℕ) (plan also : Plan) (entries others : List Entry) → Gives p jobs lines plan entries
      → DoHoldAll policy trace history other also_jobs also_lines → Gives other also_jobs also_lines also others → Whole p plan entries → Whole other also others
  whole_still other also_jobs also_lines plan also entries others gives held also_gives is =
      let same = same_given p jobs lines plan also entries others gives (still_given other also_jobs also_lines also others held also_gives) in
      subst (λ (es : List Entry). Whole other also es) same.same_entries
      (subst (λ (x : Plan). Whole other x entries) same.same_plan
      (subst (λ (q : Meaning). Whole q plan entries) (the_policy other held.spells) is))

  may_judge : (plan : Plan) (entries : List Entry) → Gives p jobs lines plan entries → MayJudge policy trace history p plan entries
  may_judge plan entries gives = record {
    text = text;
    jobs = jobs;
    lines = lines;
    policy_read = read.policy_read;
    trace_read = read.trace_read;
    history_read = read.history_read;
    accepted = read.accepted;
    meets = met;
    gives = gives;
  }

  -- the history is whole
  pub judged_whole : (Says : Saying) (plan : Plan) (entries : List Entry) (bytes : List ℕ) (before after : Option (List ℕ)) (code : ℕ) → Gives p jobs lines plan entries
      → Whole p plan entries → Says.of_whole p plan entries bytes → code ≡ 0 → Adds bytes before after → JudgesTruly Says policy trace history before after code
  judged_whole Says plan entries bytes before after code gives is says own added = record {
    whole = λ h. record {
      p = p;
      plan = plan;
      entries = entries;
      may = may_judge plan entries gives;
      whole = is;
      keeps = main_theorem p met plan entries gives.means.fits is.legal;
      bytes = bytes;
      says = says;
      written = added;
    };
    not_whole = λ h. absurd (omega arith);
    must = record {
      whole = λ other also_jobs also_lines also others held also_gives whole. rw own refl;
      not_whole = λ other also_jobs also_lines also others held also_gives none.
          absurd (none (whole_still other also_jobs also_lines plan also entries others gives held also_gives is));
      faulty = λ other also_jobs also_lines fault held has.
          absurd (never_faulty p jobs gives.means.trace plan fault gives.means.spells gives.means.means (still_faulty other also_jobs also_lines fault held has));
      bad_line = λ other also_jobs also_lines also line held means bad.
          absurd (not_both plan.cores lines entries line gives.spells (still_bad other also_jobs also_lines plan also line gives.means held means bad));
      decides = λ other also_jobs also_lines held also too none three. absurd (omega arith);
      refuses = λ other also_jobs also_lines held also too unmet. absurd (unmet (still_met other held));
      unjudged = λ also_jobs also_lines also too. judged_refuses policy text p code read.policy_read read.accepted.spells read.accepted.few;
    };
    lines = λ low. absurd (let bad = rw own at low in cc);
    bad_text = λ h. absurd (omega arith);
  }

  -- the history isn't whole
  pub judged_not_whole : (Says : Saying) (plan : Plan) (entries : List Entry) (bytes : List ℕ) (before after : Option (List ℕ)) (code : ℕ) → Gives p jobs lines plan entries
      → (Whole p plan entries → ⊥) → Says.of_other p plan entries bytes → code ≡ 9 → Adds bytes before after → JudgesTruly Says policy trace history before after code
  judged_not_whole Says plan entries bytes before after code gives not_is says own added = record {
    whole = λ h. absurd (omega arith);
    not_whole = λ h. record {
      p = p;
      plan = plan;
      entries = entries;
      may = may_judge plan entries gives;
      unfinished = not_is;
      bytes = bytes;
      says = says;
      written = added;
    };
    must = record {
      whole = λ other also_jobs also_lines also others held also_gives is.
          absurd (not_is (still_whole other also_jobs also_lines plan also entries others gives held also_gives is));
      not_whole = λ other also_jobs also_lines also others held also_gives none. rw own refl;
      faulty = λ other also_jobs also_lines fault held has.
          absurd (never_faulty p jobs gives.means.trace plan fault gives.means.spells gives.means.means (still_faulty other also_jobs also_lines fault held has));
      bad_line = λ other also_jobs also_lines also line held means bad.
          absurd (not_both plan.cores lines entries line gives.spells (still_bad other also_jobs also_lines plan also line gives.means held means bad));
      decides = λ other also_jobs also_lines held also too none three. absurd (omega arith);
      refuses = λ other also_jobs also_lines held also too unmet. absurd (unmet (still_met other held));
      unjudged = λ also_jobs also_lines also too. judged_refuses policy text p code read.policy_read read.accepted.spells read.accepted.few;
    };
    lines = λ low. absurd (let bad = rw own at low in cc);
    bad_text = λ h. absurd (omega arith);
  }

  -- a text has a fault, so that nothing is given
  must_refuse : (code : ℕ) → code ≡ 2 → ((plan : Plan) (entries : List Entry) → Gives p jobs lines plan entries → ⊥) → MustJudge policy trace history code
  must_refuse code own never = record {
    whole = λ other also_jobs also_lines also others held also_gives is. absurd (never also others (still_given other also_jobs also_lines also others held also_gives));
    not_whole = λ other also_jobs also_lines also others held also_gives none. absurd (never also others (still_given other also_jobs also_lines also others held also_gives));
    faulty = λ other also_jobs also_lines fault held has. rw own refl;
    bad_line = λ other also_jobs also_lines also line held means bad. rw own refl;
    decides = λ other also_jobs also_lines held also too none three. absurd (omega arith);
    refuses = λ other also_jobs also_lines held also too unmet. absurd (unmet (still_met other held));
    unjudged = λ also_jobs also_lines also too. judged_refuses policy text p code read.policy_read read.accepted.spells read.accepted.few;
  }

  -- the texts give no history
  pub unread_history : (Says : Saying) (why : HistoryRefusal) (before after : Option (List ℕ)) (code : ℕ) → GiveNone p jobs lines why
      → code ≡ code_of (history_refusal_status why) → Adds (histories.refusal_line why) before after → JudgesTruly Says policy trace history before after code
  unread_history Says (no_history.Trace fault) before after code has own added = record {
    whole = λ h. absurd (omega arith);
    not_whole = λ h. absurd (omega arith);
    must = must_refuse code own (λ plan entries gives. never_faulty p jobs gives.means.trace plan fault gives.means.spells gives.means.means has);
    lines = λ low. absurd (let bad = rw own at low in cc);
    bad_text = λ h. inr (inl (record {
      text = text;
      jobs = jobs;
      policy_read = read.policy_read;
      trace_read = read.trace_read;
      p = p;
      accepted = read.accepted;
      fault = fault;
      has = has;
      written = added;
    }));
  }
  unread_history Says (no_history.BadLine line) before after code has own added = record {
    whole = λ h. absurd (omega arith);
    not_whole = λ h. absurd (omega arith);
    must = must_refuse code own (λ plan entries gives.
        let same = same_means p jobs plan has.0 gives.means has.1 in
        not_both plan.cores lines entries line gives.spells (subst (λ (x : Plan). IsFirstBadLine x.cores lines line) (sym same) has.2));
    lines = λ low. absurd (let bad = rw own at low in cc);
    bad_text = λ h. inr (inr (record {
      text = text;
      jobs = jobs;
      lines = lines;
      policy_read = read.policy_read;
      trace_read = read.trace_read;
      history_read = read.history_read;
      p = p;
      accepted = read.accepted;
      plan = has.0;
      means = has.1;
      line = line;
      bad = has.2;
      written = added;
    }));
  }
  unread_history Says (no_history.Illegal position) before after code has own added = absurd has
  unread_history Says (no_history.Short count) before after code has own added = absurd has

  -- they give none, or one that isn't whole
  pub refused_history : (Says : Saying) → ((plan : Plan) (entries : List Entry) (bytes : List ℕ) → SaysNotWhole p plan entries bytes → Says.of_other p plan entries bytes)
      → (why : HistoryRefusal) (before after : Option (List ℕ)) (code : ℕ) → HasRefusal p jobs lines why
      → code ≡ code_of (history_refusal_status why) → Adds (histories.refusal_line why) before after → JudgesTruly Says policy trace history before after code
  refused_history Says told (no_history.Trace fault) before after code has own added = unread_history Says (no_history.Trace fault) before after code has own added
  refused_history Says told (no_history.BadLine line) before after code has own added = unread_history Says (no_history.BadLine line) before after code has own added
  refused_history Says told (no_history.Illegal position) before after code (plan, entries, gives, first) own added =
      let bytes : List ℕ = histories.refusal_line (no_history.Illegal position) in
      judged_not_whole Says plan entries bytes before after code gives (λ is. one_judgement.legal p plan entries position is.legal first)
      (told plan entries bytes (illegal position first refl)) own added
  refused_history Says told (no_history.Short count) before after code (plan, entries, gives, too_short) own added =
      let bytes : List ℕ = histories.refusal_line (no_history.Short count) in
      judged_not_whole Says plan entries bytes before after code gives too_short.unfinished (told plan entries bytes (short count too_short refl)) own added
