-- The laws of decisions and starts, of each journal.
use Rattle.std.proofs.Common.{◌≡◌, ◌≤◌, ◌++◌, ◌&&◌, ◌||◌, ◌⊎◌, inl, inr, ℕ, List, [], ◌∷◌, Bool, true, false, if◌then◌else◌, not, Option, Some, None, refl, ap, sym, subst, ◌∙◌, arith, length}
use Rattle.std.specs.List.{flat_map, list_all, list_any}
use Rattle.std.specs.Prelude.{nat_eq, nat_lt, slice_get, suc, zero}
use Rattle.std.proofs.lemmas.Bool.Decides.{nat_tests}
use Rattle.frame_laws.proofs.Extending.{append_none, append_twice}
use Rattle.ignite_types.proofs.NameLaws.{same_node_itself, same_node_true, same_tx_itself, same_tx_true}
use Rattle.ignite_types.specs.Names.{same_node, same_top, same_tx}
use Rattle.ignite_types.specs.declared.journal.Event.{Event}
use Rattle.ignite_types.specs.declared.journal.Group.{Group}
use Rattle.ignite_types.specs.declared.journal.Journal.{Journal}
use Rattle.ignite_types.specs.declared.journal.Rec.{Rec}
use Rattle.ignite_types.specs.declared.journal.TopoEvent.{TopoEvent}
use Rattle.ignite_types.specs.declared.names.NodeId.{NodeId}
use Rattle.ignite_types.specs.declared.names.TopVer.{TopVer}
use Rattle.ignite_types.specs.declared.names.TxId.{TxId}
use Rattle.ignite_types.specs.declared.scenario.PlanStep.{PlanStep}
use Rattle.ignite_types.specs.declared.scenario.Scenario.{Scenario}
use Rattle.ignite_types.specs.declared.scenario.Step.{Step}
use Rattle.journal_statements.specs.Noted.{Noted, each_from, is_committed_before, is_commit_in, is_lost, noted, recs_of, start_noted, version_of_tx}
use Rattle.journal_statements.specs.Topologies.{event_of_planned, event_of_step, events_in_rec, events_of}
use Rattle.journal_statements.specs.Versions.{commits_stand, decision_stands, has_opened, is_decide_in, is_opened_in, was_open}
use Rattle.link_laws.proofs.Journals.{first_rest, or_none}
use Rattle.map_laws.proofs.MapFrames.{recs_parts}
use Rattle.part_model.specs.Directory.{first_top}
use Rattle.part_model.specs.NextMap.{is_member}
use Rattle.part_model.specs.Orders.{is_node}
use Rattle.scenes.proofs.EachRun.{directory_told, few}
use Rattle.scenes.specs.EachRun.{IsRunOf, is_short_run, last_scene}
use Rattle.topology_laws.proofs.Lists.{each_both, each_change}
use Rattle.topology_laws.proofs.Records.{lost_more, or_second}
use Rattle.topology_laws.specs.TopologyFacts.{HoldsOfEach, is_leave_of, never_leaves}
use Rattle.ignite_types.specs.declared.journal.Event.TheVariants as event
use Rattle.ignite_types.specs.declared.journal.Rec.TheVariants as note
use Rattle.ignite_types.specs.declared.scenario.Step.TheVariants as step
use Rattle.transaction_laws.proofs.CountedRuns.{counted_holds}
use Rattle.transaction_laws.proofs.LeavesStarters.{all_of_both}
use Rattle.transaction_laws.proofs.StarterEvents.{starters_lead, starters_open}
use Rattle.transaction_laws.proofs.StarterNotes.{own_later}
use Rattle.transaction_laws.specs.StarterFacts.{decision_in, decisions, version_in, versions}
use Rattle.transaction_laws.specs.StarterInvariant.{StarterInvariant}
use Rattle.transaction_laws.specs.StarterNotes.{AreOwnOrLost, IsOwnOrLost, OwnRecordFits, OwnRecordsFit}
use Rattle.transaction_laws.specs.TransactionLaws.{commits_stand_or_lost, decided_once, has_no_loss, is_by_starter_or_after_loss, is_decided_by, is_first_by_starter, is_loss, is_lower_start, is_start_at_open, recovered_after_loss, rising_names, stands_or_is_lost, started_once, starts_above}

both_pass : (a b : Bool) → a ≡ true → b ≡ true → (a && b) ≡ true
both_pass a b first second = rw first second

-- What is known of a record, by those before it.

abbrev AreOwn : List Noted → List Noted → Type 0
AreOwn recs xs = HoldsOfEach (λ (n : Noted). IsOwnOrLost recs n.node n.rec) xs

record StepFits (s : Scenario) (before : List Noted) (n : Noted) : Type 0 where
  pub own : (m : NodeId) → n.node ≡ Some m → OwnRecordFits m (is_member s.nodes m) (recs_of m before) n.rec
  pub here : IsOwnOrLost before n.node n.rec
  pub earlier : AreOwn before before

abbrev AllFit : Scenario → List Noted → List Noted → Type 0
AllFit s before ns = (m : NodeId) → OwnRecordsFit m (is_member s.nodes m) (recs_of m before) (recs_of m ns)

module _ (s : Scenario) (test : List Noted → Noted → Bool) (one : (before : List Noted) (n : Noted) → StepFits s before n →
    test before n ≡ true) where
  head_fits : (before : List Noted) (n : Noted) (ns : List Noted) → AllFit s before (n ∷ ns) → (m : NodeId) →
      n.node ≡ Some m → OwnRecordFits m (is_member s.nodes m) (recs_of m before) n.rec
  head_fits before n ns all m is =
      (subst (λ (c : Bool). OwnRecordsFit m (is_member s.nodes m) (recs_of m before)
      ((if c then n.rec ∷ [] else []) ++ recs_of m ns)) (ap (is_node m) is ∙ same_node_itself m) (all m)).0

  rest_fits : (before : List Noted) (n : Noted) (ns : List Noted) → AllFit s before (n ∷ ns) → AllFit s (before ++ n ∷ []) ns
  rest_fits before n ns all m =
      subst (λ (rs : List Rec). OwnRecordsFit m (is_member s.nodes m) rs (recs_of m ns)) (sym (recs_parts m before (n ∷ [])))
      (by (is_node m n.node) (all m))
    where
      by : (c : Bool) → OwnRecordsFit m (is_member s.nodes m) (recs_of m before)
          ((if c then n.rec ∷ [] else []) ++ recs_of m ns) →
          OwnRecordsFit m (is_member s.nodes m) (recs_of m before ++ ((if c then n.rec ∷ [] else []) ++ [])) (recs_of m ns)
      by true fits = fits.1
      by false fits = subst (λ (rs : List Rec). OwnRecordsFit m (is_member s.nodes m) rs (recs_of m ns))
          (sym (append_none (recs_of m before))) fits

  each_passes : (before ns : List Noted) → AllFit s before ns → AreOwnOrLost before ns → AreOwn before before →
      each_from test before ns ≡ true
  each_passes before [] all own earlier = refl
  each_passes before (n ∷ ns) all own earlier =
      rw (one before n (record { own = head_fits before n ns all; here = own.0; earlier = earlier }))
      (each_passes (before ++ n ∷ []) ns (rest_fits before n ns all) own.1
      (each_both (λ (x : Noted). IsOwnOrLost (before ++ n ∷ []) x.node x.rec) before (n ∷ [])
      (each_change (λ (x : Noted). IsOwnOrLost before x.node x.rec)
      (λ (x : Noted). IsOwnOrLost (before ++ n ∷ []) x.node x.rec) before
      (λ x there. own_later before (n ∷ []) x.node x.rec there) earlier)
      (own_later before (n ∷ []) n.node n.rec own.0, tt)))

-- Decisions.

-- what a node has decided stands in its own records
decided_by : (node : NodeId) (tx : TxId) (recs : List Noted) → decisions tx (recs_of node recs) ≡ [] →
    is_decided_by node tx recs ≡ false
decided_by node tx [] none = refl
decided_by node tx (n ∷ ns) none = by (λ rest. decided_by node tx ns rest) (is_node node n.node) n.rec none
  where
    by : (decisions tx (recs_of node ns) ≡ [] → is_decided_by node tx ns ≡ false) → (c : Bool) (r : Rec) →
        decisions tx ((if c then r ∷ [] else []) ++ recs_of node ns) ≡ [] →
        ((c && is_decide_in tx r) || is_decided_by node tx ns) ≡ false
    by goes false r none_here = goes none_here
    by goes true (note.Decide u commit) none_here = one (same_tx u tx) none_here
      where
        one : (b : Bool) → (if b then commit ∷ [] else []) ++ decisions tx (recs_of node ns) ≡ [] →
            (b || is_decided_by node tx ns) ≡ false
        one true some = absurd (cc (some))
        one false some = goes some
    by goes true _ none_here = goes none_here

decides_first : (s : Scenario) (before : List Noted) (n : Noted) → StepFits s before n →
    is_first_by_starter before n.node n.rec ≡ true
decides_first s before n f = by n.rec f.own
  where
    by : (r : Rec) → ((m : NodeId) → n.node ≡ Some m → OwnRecordFits m (is_member s.nodes m) (recs_of m before) r) →
        is_first_by_starter before n.node r ≡ true
    by (note.Decide tx commit) own = who n.node refl
      where
        who : (o : Option NodeId) → n.node ≡ o → (not (is_node tx.node o) || not (is_decided_by tx.node tx before)) ≡ true
        who None is = refl
        who (Some m) is = mine (same_node tx.node m) refl
          where
            mine : (c : Bool) → same_node tx.node m ≡ c → (not c || not (is_decided_by tx.node tx before)) ≡ true
            mine false other = refl
            mine true same =
                let me = same_node_true tx.node m same in
                let none = own m is me in
                ap not (decided_by tx.node tx before (subst (λ (x : NodeId). decisions tx (recs_of x before) ≡ [])
                (sym me) none))
    by _ own = refl

decides_own : (s : Scenario) (before : List Noted) (n : Noted) → StepFits s before n →
    is_by_starter_or_after_loss before n.node n.rec ≡ true
decides_own s before n f = by n.rec f.here
  where
    by : (r : Rec) → IsOwnOrLost before n.node r → is_by_starter_or_after_loss before n.node r ≡ true
    by (note.Decide tx commit) (inl own) = rw (own, same_node_itself tx.node) refl
    by (note.Decide tx commit) (inr lost) = or_second (is_node tx.node n.node) (is_lost before tx.node) lost
    by _ own = refl

-- where the starter is not lost, all decisions are its own
none_committed : (recs : List Noted) (tx : TxId) → is_lost recs tx.node ≡ false → (xs : List Noted) → AreOwn recs xs →
    decisions tx (recs_of tx.node xs) ≡ [] → is_committed_before xs tx ≡ false
none_committed recs tx lives [] own none = refl
none_committed recs tx lives (n ∷ ns) own none = by (λ less. none_committed recs tx lives ns own.1 less) n.rec n.node own.0 none
  where
    rest : (decisions tx (recs_of tx.node ns) ≡ [] → is_committed_before ns tx ≡ false) → (c : Bool) (r : Rec) →
        decisions tx ((if c then r ∷ [] else []) ++ recs_of tx.node ns) ≡ [] → is_committed_before ns tx ≡ false
    rest goes true r none_here = goes (last (decision_in tx r) (decisions tx (recs_of tx.node ns)) none_here)
      where
        last : (xs ys : List Bool) → xs ++ ys ≡ [] → ys ≡ []
        last [] ys none_here = none_here
        last (x ∷ xs) ys none_here = absurd (cc (none_here))
    rest goes false r none_here = goes none_here

    by : (decisions tx (recs_of tx.node ns) ≡ [] → is_committed_before ns tx ≡ false) → (r : Rec) (who : Option NodeId) →
        IsOwnOrLost recs who r → decisions tx ((if is_node tx.node who then r ∷ [] else []) ++ recs_of tx.node ns) ≡ [] →
        (is_commit_in tx r || is_committed_before ns tx) ≡ false
    by goes (note.Decide u commit) who is none_here = mine (same_tx u tx) refl is
      where
        mine : (b : Bool) → same_tx u tx ≡ b → (who ≡ Some u.node) ⊎ (is_lost recs u.node ≡ true) →
            ((b && commit) || is_committed_before ns tx) ≡ false
        mine false apart is = rest goes (is_node tx.node who) (note.Decide u commit) none_here
        mine true same (inr lost) =
            let one = same_tx_true u tx same in
            let gone : is_lost recs tx.node ≡ true = subst (λ (t : TxId). is_lost recs t.node ≡ true) one lost in
            absurd (cc (gone, lives))
        mine true same (inl own) =
            let one = same_tx_true u tx same in
            let there : is_node tx.node who ≡ true = ap (is_node tx.node) own
            ∙ ap (λ (t : TxId). same_node tx.node t.node) one ∙ same_node_itself tx.node in
            let some = subst (λ (c : Bool). decisions tx ((if c then note.Decide u commit ∷ [] else []) ++ recs_of tx.node ns)
            ≡ []) there none_here in
            absurd (let first : (if same_tx u tx then commit ∷ [] else []) ++ decisions tx (recs_of tx.node ns) ≡ commit
            ∷ decisions tx (recs_of tx.node ns) =
            ap (λ (b : Bool). (if b then commit ∷ [] else []) ++ decisions tx (recs_of tx.node ns)) same in let empty =
            sym first ∙ some in cc (empty))
    by goes r who is none_here = rest goes (is_node tx.node who) r none_here

stands : (s : Scenario) (before : List Noted) (n : Noted) → StepFits s before n → stands_or_is_lost before n.rec ≡ true
stands s before n f = by n.rec f.here f.own
  where
    by : (r : Rec) → IsOwnOrLost before n.node r →
        ((m : NodeId) → n.node ≡ Some m → OwnRecordFits m (is_member s.nodes m) (recs_of m before) r) →
        stands_or_is_lost before r ≡ true
    by (note.Decide tx false) (inr lost) own = or_second (not (is_committed_before before tx)) (is_lost before tx.node) lost
    by (note.Decide tx false) (inl mine) own = lives (is_lost before tx.node) refl
      where
        lives : (c : Bool) → is_lost before tx.node ≡ c → (not (is_committed_before before tx) || c) ≡ true
        lives true lost = or_second (not (is_committed_before before tx)) true refl
        lives false lost = rw (none_committed before tx lost before f.earlier (own tx.node mine refl)) refl
    by (note.Decide tx true) is own = refl
    by _ is own = refl

-- Starts.

not_started : (tx : TxId) (r : Rec) (c : Bool) (rs : List Rec) → version_in tx r ≡ [] →
    versions tx rs ≡ versions tx ((if c then r ∷ [] else []) ++ rs)
not_started tx r true rs none = sym (ap (λ (vs : List TopVer). vs ++ versions tx rs) none)
not_started tx r false rs none = refl

some_versions : (tx : TxId) (recs xs : List Noted) → AreOwn recs xs → flat_map (λ (n : Noted). start_noted tx n.rec) xs
    ≡ versions tx (recs_of tx.node xs)
some_versions tx recs [] own = refl
some_versions tx recs (n ∷ ns) own = by n.rec n.node own.0 (some_versions tx recs ns own.1)
  where
    by : (r : Rec) (who : Option NodeId) → IsOwnOrLost recs who r → flat_map (λ (x : Noted). start_noted tx x.rec) ns
        ≡ versions tx (recs_of tx.node ns)
        → start_noted tx r ++ flat_map (λ (x : Noted). start_noted tx x.rec) ns ≡ versions tx
        ((if is_node tx.node who then r ∷ [] else []) ++ recs_of tx.node ns)
    by (note.Start u top) who is rest = mine (same_tx u tx) refl
      where
        other : (c : Bool) → same_tx u tx ≡ false →
            versions tx (recs_of tx.node ns) ≡ versions tx ((if c then note.Start u top ∷ [] else []) ++ recs_of tx.node ns)
        other true apart = rw apart refl
        other false apart = refl

        mine : (b : Bool) → same_tx u tx ≡ b → (if b then top ∷ [] else []) ++ flat_map (λ (x : Noted). start_noted tx x.rec)
            ns ≡ versions tx ((if is_node tx.node who then note.Start u top ∷ [] else []) ++ recs_of tx.node ns)
        mine true same =
            let one = same_tx_true u tx same in
            let there : is_node tx.node who ≡ true = ap (is_node tx.node) is ∙ ap (λ (t : TxId). same_node tx.node t.node) one
            ∙ same_node_itself tx.node in
            rw (there, same) (ap (λ (vs : List TopVer). top ∷ vs) rest)
        mine false apart = rest ∙ other (is_node tx.node who) apart
    by r who is rest = rest ∙ not_started tx r (is_node tx.node who) (recs_of tx.node ns) refl

opened_there : (node : NodeId) (top : TopVer) (recs : List Noted) → list_any (is_opened_in top) (recs_of node recs) ≡ list_any
    (has_opened node top) recs
opened_there node top [] = refl
opened_there node top (n ∷ ns) = by (is_node node n.node) (opened_there node top ns)
  where
    by : (c : Bool) → list_any (is_opened_in top) (recs_of node ns) ≡ list_any (has_opened node top) ns →
        list_any (is_opened_in top) ((if c then n.rec ∷ [] else []) ++ recs_of node ns) ≡ ((c && is_opened_in top n.rec)
        || list_any (has_opened node top) ns)
    by true rest = ap (λ (b : Bool). is_opened_in top n.rec || b) rest
    by false rest = rest

starts_open : (s : Scenario) (before : List Noted) (n : Noted) → StepFits s before n → is_start_at_open s before n.node n.rec
    ≡ true
starts_open s before n f = by n.rec f.here f.own
  where
    by : (r : Rec) → IsOwnOrLost before n.node r →
        ((m : NodeId) → n.node ≡ Some m → OwnRecordFits m (is_member s.nodes m) (recs_of m before) r) →
        is_start_at_open s before n.node r ≡ true
    by (note.Start tx top) mine own =
        let fits = own tx.node mine in
        let none : version_of_tx before tx ≡ None =
        ap (λ (vs : List TopVer). slice_get vs 0) (some_versions tx before before f.earlier
        ∙ fits.is_latest tx refl refl (same_number tx.number)) in
        let free : was_open s before tx.node top ≡ true =
        sym (ap (λ (b : Bool). (same_top top first_top && is_member s.nodes tx.node) || b)
        (opened_there tx.node top before)) ∙ fits.is_open in
        rw (mine, same_node_itself tx.node, none, free) refl
      where
        same_number : (k : ℕ) → k ≤ k
        same_number k = omega arith
    by _ mine own = refl

-- those that have started before have lower numbers
lower : (tx : TxId) (recs xs : List Noted) → AreOwn recs xs → ((u : TxId) → u.node ≡ tx.node → u.session ≡ tx.session →
    tx.number ≤ u.number → versions u (recs_of tx.node xs) ≡ []) → list_all (λ (n : Noted). is_lower_start tx n.rec) xs ≡ true
lower tx recs [] own latest = refl
lower tx recs (n ∷ ns) own latest =
    both_pass (is_lower_start tx n.rec) (list_all (λ (x : Noted). is_lower_start tx x.rec) ns) (first n.rec n.node own.0 latest)
    (lower tx recs ns own.1 (λ u node session number. last (is_node tx.node n.node) u (latest u node session number)))
  where
    last : (c : Bool) (u : TxId) → versions u ((if c then n.rec ∷ [] else []) ++ recs_of tx.node ns) ≡ [] →
        versions u (recs_of tx.node ns) ≡ []
    last true u none = parts (version_in u n.rec) (versions u (recs_of tx.node ns)) none
      where
        parts : (vs ws : List TopVer) → vs ++ ws ≡ [] → ws ≡ []
        parts [] ws none_here = none_here
        parts (v ∷ vs) ws none_here = absurd (cc (none_here))
    last false u none = none

    first : (r : Rec) (who : Option NodeId) → IsOwnOrLost recs who r →
        ((u : TxId) → u.node ≡ tx.node → u.session ≡ tx.session → tx.number ≤ u.number →
        versions u ((if is_node tx.node who then r ∷ [] else []) ++ recs_of tx.node ns) ≡ []) → is_lower_start tx r ≡ true
    first (note.Start u top) who is all = same (same_node u.node tx.node) refl (nat_eq u.session tx.session) refl
        (nat_lt u.number tx.number) refl
      where
        same : (a : Bool) → same_node u.node tx.node ≡ a → (b : Bool) → nat_eq u.session tx.session ≡ b → (c : Bool) →
            nat_lt u.number tx.number ≡ c → (not (a && b) || c) ≡ true
        same false other b is_b c is_c = refl
        same true node false other c is_c = refl
        same true node true session true less = refl
        same true node true session false high =
            let at_node = same_node_true u.node tx.node node in
            let there : is_node tx.node who ≡ true = ap (is_node tx.node) is
            ∙ ap (λ (m : NodeId). same_node tx.node m) at_node ∙ same_node_itself tx.node in
            let none = subst (λ (c : Bool). versions u ((if c then note.Start u top ∷ [] else []) ++ recs_of tx.node ns) ≡ [])
            there (all u at_node (grind (arith, nat_tests, session)) (grind (arith, nat_tests, high))) in
            absurd (let some : (if same_tx u u then top ∷ [] else []) ++ versions u (recs_of tx.node ns) ≡ top ∷ versions u
            (recs_of tx.node ns) = ap (λ (b : Bool). (if b then top ∷ [] else []) ++ versions u (recs_of tx.node ns))
            (same_tx_itself u) in let empty = sym some ∙ none in cc (empty))
    first _ who is all = refl

rises : (s : Scenario) (before : List Noted) (n : Noted) → StepFits s before n → starts_above before n.rec ≡ true
rises s before n f = by n.rec f.here f.own
  where
    by : (r : Rec) → IsOwnOrLost before n.node r →
        ((m : NodeId) → n.node ≡ Some m → OwnRecordFits m (is_member s.nodes m) (recs_of m before) r) →
        starts_above before r ≡ true
    by (note.Start tx top) mine own = lower tx before before f.earlier (own tx.node mine).is_latest
    by _ mine own = refl

-- Where no step of the plan is a loss, none leaves.

step_stays : (n : NodeId) (p : PlanStep) → not (is_loss p.step) ≡ true → never_leaves n (event_of_step p.step) ≡ true
step_stays n p stays = by p.step stays
  where
    by : (x : Step) → not (is_loss x) ≡ true → never_leaves n (event_of_step x) ≡ true
    by (step.Join m) stays = refl
    by (step.Lose m) stays = absurd (cc (stays))
    by (step.Hold from to) stays = refl
    by (step.Release from to) stays = refl
    by (step.Start cache) stays = refl
    by (step.Stop cache) stays = refl

planned_stays : (n : NodeId) (plan : List PlanStep) (place : ℕ) → list_all (λ (p : PlanStep). not (is_loss p.step)) plan
    ≡ true → never_leaves n (event_of_planned (slice_get plan place)) ≡ true
planned_stays n [] place stays = refl
planned_stays n (p ∷ ps) zero stays =
    step_stays n p (first_rest (not (is_loss p.step)) (list_all (λ (x : PlanStep). not (is_loss x.step)) ps) stays).0
planned_stays n (p ∷ ps) (suc place) stays =
    planned_stays n ps place (first_rest (not (is_loss p.step)) (list_all (λ (x : PlanStep). not (is_loss x.step)) ps) stays).1

module _ (n : NodeId) (plan : List PlanStep) (stays : list_all (λ (p : PlanStep). not (is_loss p.step)) plan ≡ true) where
  rec_stays : (r : Rec) → never_leaves n (events_in_rec plan r) ≡ true
  rec_stays (note.Planned place None) = planned_stays n plan place stays
  rec_stays (note.Planned place (Some why)) = refl
  rec_stays _ = refl

  recs_stay : (rs : List Rec) → never_leaves n (flat_map (events_in_rec plan) rs) ≡ true
  recs_stay [] = refl
  recs_stay (r ∷ rs) = all_of_both (λ (e : TopoEvent). not (is_leave_of n e)) (events_in_rec plan r)
      (flat_map (events_in_rec plan) rs) (rec_stays r) (recs_stay rs)

  group_stays : (rs : List Rec) (e : Event) → never_leaves n (events_of plan rs e) ≡ true
  group_stays rs (event.Minor id) = refl
  group_stays rs _ = recs_stay rs

  groups_stay : (gs : List Group) → never_leaves n (flat_map (λ (g : Group). events_of plan g.recs g.event) gs) ≡ true
  groups_stay [] = refl
  groups_stay (g ∷ gs) = all_of_both (λ (e : TopoEvent). not (is_leave_of n e)) (events_of plan g.recs g.event)
      (flat_map (λ (x : Group). events_of plan x.recs x.event) gs) (group_stays g.recs g.event) (groups_stay gs)

-- Of every run.

module _ (events : ℕ) (short : is_short_run events ≡ true) (j : Journal) (run : IsRunOf events j) where
  abbrev recs : List Noted
  recs = noted j.scenario j.groups

  holds : StarterInvariant (length j.groups) (last_scene j)
  holds = counted_holds StarterInvariant starters_lead (λ s is. starters_open s) j run.is_good (few events short j run)
      run.is_legal

  each_holds : (test : List Noted → Noted → Bool) → ((before : List Noted) (n : Noted) → StepFits j.scenario before n →
      test before n ≡ true) → each_from test [] recs ≡ true
  each_holds test one = each_passes j.scenario test one [] recs (λ m. (holds.nodes m).notes.fit) holds.own_or_lost tt

  pub decided_once_holds : decided_once j ≡ true
  decided_once_holds = each_holds (λ before n. is_first_by_starter before n.node n.rec) (decides_first j.scenario)

  pub recovered_after_loss_holds : recovered_after_loss j ≡ true
  recovered_after_loss_holds = each_holds (λ before n. is_by_starter_or_after_loss before n.node n.rec) (decides_own j.scenario)

  pub commits_stand_or_lost_holds : commits_stand_or_lost j ≡ true
  commits_stand_or_lost_holds = each_holds (λ before n. stands_or_is_lost before n.rec) (stands j.scenario)

  pub started_once_holds : started_once j ≡ true
  started_once_holds = each_holds (λ before n. is_start_at_open j.scenario before n.node n.rec) (starts_open j.scenario)

  pub rising_names_hold : rising_names j ≡ true
  rising_names_hold = each_holds (λ before n. starts_above before n.rec) (rises j.scenario)

  none_lost : has_no_loss j.scenario ≡ true → (n : NodeId) → is_lost recs n ≡ false
  none_lost stays n = by (is_lost recs n) refl
    where
      by : (c : Bool) → is_lost recs n ≡ c → c ≡ false
      by false is = refl
      by true lost =
          let left = holds.losses n lost in
          let told : never_leaves n (last_scene j).directory.events ≡ true =
          ap (never_leaves n) (directory_told events short j run) ∙ groups_stay n j.scenario.plan stays j.groups in
          absurd (cc (left, told))

  -- what stands in all records stands in fewer
  fewer_lost : (before : List Noted) (tx : TxId) (more : List Noted) → is_lost (before ++ more) tx.node ≡ false →
      is_lost before tx.node ≡ false
  fewer_lost before tx more none = by (is_lost before tx.node) refl
    where
      by : (c : Bool) → is_lost before tx.node ≡ c → c ≡ false
      by false is = refl
      by true lost = let gone = lost_more before more tx.node lost in absurd (cc (gone, none))

  stand_all : (before ns : List Noted) → ((n : NodeId) → is_lost (before ++ ns) n ≡ false) →
      each_from (λ (xs : List Noted) (n : Noted). stands_or_is_lost xs n.rec) before ns ≡ true →
      each_from (λ (xs : List Noted) (n : Noted). decision_stands xs n.rec) before ns ≡ true
  stand_all before [] none all = refl
  stand_all before (n ∷ ns) none all =
      let both = first_rest (stands_or_is_lost before n.rec)
      (each_from (λ (xs : List Noted) (x : Noted). stands_or_is_lost xs x.rec) (before ++ n ∷ []) ns) all in
      both_pass (decision_stands before n.rec) (each_from (λ (xs : List Noted) (x : Noted). decision_stands xs x.rec)
      (before ++ n ∷ []) ns) (one n.rec both.0)
      (stand_all (before ++ n ∷ []) ns (λ m. subst (λ (rs : List Noted). is_lost rs m ≡ false)
      (sym (append_twice before (n ∷ []) ns)) (none m)) both.1)
    where
      one : (r : Rec) → stands_or_is_lost before r ≡ true → decision_stands before r ≡ true
      one (note.Decide tx false) is = sym (or_none (not (is_committed_before before tx)))
          ∙ subst (λ (c : Bool). (not (is_committed_before before tx) || c) ≡ true)
          (fewer_lost before tx (n ∷ ns) (none tx.node)) is
      one (note.Decide tx true) is = refl
      one _ is = refl

  pub commits_stand_holds : has_no_loss j.scenario ≡ true → commits_stand j ≡ true
  commits_stand_holds stays = stand_all [] recs (none_lost stays) commits_stand_or_lost_holds
