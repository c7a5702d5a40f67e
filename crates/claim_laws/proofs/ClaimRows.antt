-- The claims of a node change in two rows alone: a new map clears them, and a Complete brings one.
use Rattle.std.proofs.Common.{◌≡◌, List, [], ◌∷◌, Option, Some, None, Bool, true, false, fold, ℕ, refl, ap, sym, subst}
use Rattle.std.specs.List.{list_all}
use Rattle.std.specs.Ordering.{match_ordering}
use Rattle.std.specs.declared.cmp.Ordering.{Ordering}
use Rattle.std.specs.declared.cmp.Ordering.TheVariants.{Equal, Greater, Less}
use Rattle.act_rows.specs.Acts.{after_message, after_see}
use Rattle.act_rows.specs.Closing.{after_closing_rules}
use Rattle.act_rows.specs.Exchange.{after_learn}
use Rattle.act_rows.specs.Filling.{claim_cmp}
use Rattle.act_rows.specs.Locks.{after_leave, after_lock_behind, after_pass_on, is_owner, owner_at}
use Rattle.act_rows.specs.Steps.{with_note}
use Rattle.claim_laws.specs.ClaimFacts.{KeepsClaims}
use Rattle.frame_laws.proofs.ActsKept.{message_row_kept, seen_kept, then_closed_kept}
use Rattle.frame_laws.specs.Kits.{ClosedUnderAllWatchedSteps, ClosedUnderWatchedSteps, PlainFrame}
use Rattle.ignite_types.specs.declared.journal.TopoEvent.{TopoEvent}
use Rattle.ignite_types.specs.declared.message.Message.{Message}
use Rattle.ignite_types.specs.declared.names.NodeId.{NodeId}
use Rattle.ignite_types.specs.declared.names.TopVer.{TopVer}
use Rattle.ignite_types.specs.declared.names.TxId.{TxId}
use Rattle.ignite_types.specs.declared.text.Key.{Key}
use Rattle.link_laws.proofs.Journals.{first_rest}
use Rattle.node_state.specs.Node.{NodeState}
use Rattle.node_state.specs.declared.topology.Claim.{Claim}
use Rattle.ordered_set.specs.Members.{with_member}
use Rattle.ignite_types.specs.declared.journal.Rec.TheVariants as note
use Rattle.ignite_types.specs.declared.message.Message.TheVariants as msg

module _ (test : Claim → Bool) where
  placed_keeps : (s : NodeState) (from : NodeId) (tx : TxId) (top : TopVer) (key : Key) (owner : Option TxId) →
      KeepsClaims test s (after_lock_behind s from tx top key owner)
  placed_keeps s from tx top key None all = all
  placed_keeps s from tx top key (Some owner) all = all

  passed_on_keeps : (s : NodeState) (key : Key) (was_owner : Bool) (owner : Option TxId) →
      KeepsClaims test s (after_pass_on s key was_owner owner)
  passed_on_keeps s key true (Some next) all = all
  passed_on_keeps s key true None all = all
  passed_on_keeps s key false owner all = all

  plain_keeps : ClosedUnderWatchedSteps true (KeepsClaims test)
  plain_keeps = record {
    nothing = λ s all. all;
    andthen = λ a b c first second all. second (first all);
    aside = λ before after same all. subst (λ (cs : List Claim). list_all test cs ≡ true)
        (sym (ap (λ (f : PlainFrame). f.claims) same)) all;
    noting = λ s r own lockless other all. all;
    sent_all = λ s outs plain all. all;
    placed = λ s from tx top key. placed_keeps s from tx top key (owner_at s key);
    released = λ s tx key.
        let left = after_leave s tx key in
        let noted = with_note left (note.Drop tx key) in
        passed_on_keeps noted key (is_owner tx (owner_at s key)) (owner_at noted key);
    owned = λ s tx top key free all. all;
  }

  pub claims_keep : ClosedUnderAllWatchedSteps true (KeepsClaims test)
  claims_keep = record {
    plain = plain_keeps;
    learns = λ s event all. all;
    keeps_single = λ s single all. all;
    drops_singles = λ s top all. all;
    drops_lost = λ s who all. all;
    installs = λ s m all. refl;
    exchanges = λ s x all. all;
    opens = λ s top all. all;
    marks_single = λ s all. all;
    sends = λ s outs all. all;
  }

  with_claim : (claims : List Claim) (claim : Claim) → list_all test claims ≡ true → test claim ≡ true →
      list_all test (with_member claim_cmp claims claim) ≡ true
  with_claim [] claim all one = rw one refl
  with_claim (c ∷ cs) claim all one =
      let both = first_rest (test c) (list_all test cs) all in
      by (claim_cmp claim c) both.0 both.1 (with_claim cs claim both.1 one)
    where
      by : (o : Ordering) → test c ≡ true → list_all test cs ≡ true → list_all test (with_member claim_cmp cs claim) ≡ true →
          list_all test (match_ordering o (claim ∷ c ∷ cs) (c ∷ cs) (c ∷ with_member claim_cmp cs claim)) ≡ true
      by Less first rest more = rw (one, first) rest
      by Equal first rest more = rw first rest
      by Greater first rest more = rw first more

  -- a message that brings a claim which passes
  pub takes_claims : (s : NodeState) (from : NodeId) (m : Message) →
      ((top : TopVer) → m ≡ msg.Complete top → test (record { top = top; node = from }) ≡ true) →
      KeepsClaims test s (after_closing_rules (after_message s from m))
  takes_claims s from m passes = then_closed_kept (KeepsClaims test) claims_keep s (after_message s from m)
      (message_row_kept (KeepsClaims test) claims_keep s from m
      (λ top is all. with_claim s.claims (record { top = top; node = from }) all (passes top is)))

  pub sees_claims : (s : NodeState) (place : ℕ) (e : TopoEvent) → KeepsClaims test s (after_closing_rules (after_see s place e))
  sees_claims s place e all = seen_kept (KeepsClaims test) claims_keep (with_note (after_learn s e) (note.See place)) place e
      all

  pub learned_claims : (es : List TopoEvent) (s : NodeState) → KeepsClaims test s (fold after_learn s es)
  learned_claims [] s all = all
  learned_claims (e ∷ es) s all = learned_claims es (after_learn s e) all
