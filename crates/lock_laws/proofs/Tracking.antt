-- What each small step notes of the lock queues goes on telling who owns each key.
use Rattle.std.proofs.Common.{◌≡◌, ◌≢◌, ◌++◌, ◌&&◌, ◌||◌, List, [], ◌∷◌, Bool, true, false, if◌then◌else◌, not, Option, Some, None, slice_get, unwrap_or, refl, ap, sym, subst, ◌∙◌}
use Rattle.std.specs.declared.cmp.Ordering.TheVariants.{Less, Equal, Greater}
use Rattle.std.proofs.lemmas.Cmp.{tied_itself}
use Rattle.frame_laws.proofs.Extending.{append_none, append_twice}
use Rattle.frame_laws.specs.Kits.{ClosedUnderAllSteps, ClosedUnderSteps, PlainFrame, is_lock}
use Rattle.act_rows.specs.Exchange.{after_install, after_learn, without_single, without_singles}
use Rattle.act_rows.specs.Locks.{after_grant, after_leave, after_lock_behind, after_pass_on, is_owner, owner_at, with_queued}
use Rattle.act_rows.specs.Steps.{installed_top, with_note, with_outs}
use Rattle.part_model.specs.Queues.{Queues, other_owner, owner_in, queue_in, queue_without, queues_with, queues_without, with_queue_in}
use Rattle.ignite_types.proofs.NameLaws.{exact_keys, key_equiv, key_total, same_key_true, same_tx_true, tx_equiv}
use Rattle.ignite_types.specs.Names.{key_cmp, same_key, same_tx}
use Rattle.ignite_types.specs.declared.journal.Rec.{Rec}
use Rattle.ignite_types.specs.declared.names.NodeId.{NodeId}
use Rattle.ignite_types.specs.declared.names.TopVer.{TopVer}
use Rattle.ignite_types.specs.declared.names.TxId.{TxId}
use Rattle.ignite_types.specs.declared.text.Key.{Key}
use Rattle.journal_statements.specs.Waits.{holds_after}
use Rattle.lock_laws.specs.Tracking.{GrantFits, GrantsFit, KeepsOwnersMatch, OwnersMatch}
use Rattle.node_state.specs.Node.{NodeState}
use Rattle.ordered_table.proofs.Ascending as ascending
use Rattle.ordered_table.proofs.Laws as laws
use Rattle.ordered_table.specs.Places.{IsAscending}
use Rattle.ignite_types.specs.declared.journal.Rec.TheVariants as note

-- Names.

key_apart : (key k : Key) → key_cmp k key ≢ Equal → same_key key k ≡ false
key_apart key k apart =
    elim (same_key key k) as (λ b. same_key key k ≡ b → b ≡ false) [
      | true ↦ λ g. absurd (apart (subst (λ (x : Key). key_cmp k x ≡ Equal) (sym (same_key_true key k g))
          (tied_itself key_total k)))
      | false ↦ λ g. refl
    ] refl

-- the key itself, and any other
by_key : (P : Key → Type 0) (key k : Key) → P key → (key_cmp k key ≢ Equal → same_key key k ≡ false → P k) → P k
by_key P key k same other =
    elim (key_cmp k key) as (λ r. key_cmp k key ≡ r → P k) [
      | Less ↦ λ g. let apart : key_cmp k key ≢ Equal = λ h. absurd (cc) in other apart (key_apart key k apart)
      | Equal ↦ λ g. subst P (sym (exact_keys k key g)) same
      | Greater ↦ λ g. let apart : key_cmp k key ≢ Equal = λ h. absurd (cc) in other apart (key_apart key k apart)
    ] refl

-- Tests.

and_true : (b : Bool) → (b && true) ≡ b
and_true true = refl
and_true false = refl

and_false : (b : Bool) → (b && false) ≡ false
and_false true = refl
and_false false = refl

or_false : (b : Bool) → (b || false) ≡ b
or_false true = refl
or_false false = refl

-- a grant of another key changes nothing
granted_apart : (h b c : Bool) → c ≡ false → (h || (b && c)) ≡ h
granted_apart h b c none = rw (none, and_false b, or_false h) refl

dropped_apart : (h b c : Bool) → c ≡ false → (h && not (b && c)) ≡ h
dropped_apart h b c none = rw (none, and_false b, and_true h) refl

-- Records.

holds_append : (tx : TxId) (key : Key) (held : Bool) (xs ys : List Rec) →
    holds_after tx key held (xs ++ ys) ≡ holds_after tx key (holds_after tx key held xs) ys
holds_append tx key held [] ys = refl
holds_append tx key held (note.Grant u top k ∷ xs) ys = holds_append tx key (held || (same_tx u tx && same_key k key)) xs ys
holds_append tx key held (note.Drop u k ∷ xs) ys = holds_append tx key (held && not (same_tx u tx && same_key k key)) xs ys
holds_append tx key held (x ∷ xs) ys = holds_append tx key held xs ys

fits_append : (before xs ys : List Rec) → GrantsFit before xs → GrantsFit (before ++ xs) ys → GrantsFit before (xs ++ ys)
fits_append before [] ys first second = subst (λ (b : List Rec). GrantsFit b ys) (append_none before) second
fits_append before (x ∷ xs) ys first second = (
  first.0,
  fits_append (before ++ x ∷ []) xs ys first.1
      (subst (λ (b : List Rec). GrantsFit b ys) (sym (append_twice before (x ∷ []) xs)) second),
)

-- what is noted tells of the new queues where it takes each owner before to the owner after
tells_on : (recs more : List Rec) (qs qs2 : Queues) → IsAscending key_cmp qs2 →
    ((tx : TxId) (key : Key) → holds_after tx key (is_owner tx (owner_in qs key)) more ≡ is_owner tx (owner_in qs2 key)) →
    OwnersMatch recs qs → OwnersMatch (recs ++ more) qs2
tells_on recs more qs qs2 up goes tells = record {
  ascending = up;
  owners = λ tx key.
      holds_append tx key false recs more
      ∙ ap (λ (h : Bool). holds_after tx key h more) (tells.owners tx key)
      ∙ goes tx key;
}

-- no record and the same queues
still : (before after : NodeState) → after.noted ≡ before.noted → after.queues ≡ before.queues → KeepsOwnersMatch before after
still before after noted queues = record {
  more = [];
  noted_is = noted ∙ sym (append_none before.noted);
  tells = λ recs t. subst (λ (rs : List Rec). OwnersMatch rs after.queues) (sym (append_none recs))
      (subst (λ (qs : Queues). OwnersMatch recs qs) (sym queues) t);
  fits = λ recs t. tt;
}

andthen : (a b c : NodeState) → KeepsOwnersMatch a b → KeepsOwnersMatch b c → KeepsOwnersMatch a c
andthen a b c first second = record {
  more = first.more ++ second.more;
  noted_is = second.noted_is ∙ ap (λ rs. rs ++ second.more) first.noted_is ∙ append_twice a.noted first.more second.more;
  tells = λ recs t. subst (λ (rs : List Rec). OwnersMatch rs c.queues) (append_twice recs first.more second.more)
      (second.tells (recs ++ first.more) (first.tells recs t));
  fits = λ recs t. fits_append recs first.more second.more (first.fits recs t)
      (second.fits (recs ++ first.more) (first.tells recs t));
}

lockless_holds : (tx : TxId) (key : Key) (h : Bool) (r : Rec) → is_lock r ≡ false → holds_after tx key h (r ∷ []) ≡ h
lockless_holds tx key h (note.Grant u top k) lockless = absurd (cc)
lockless_holds tx key h (note.Queue u k holder) lockless = absurd (cc)
lockless_holds tx key h (note.Drop u k) lockless = absurd (cc)
lockless_holds tx key h r lockless = refl

lockless_fits : (before : List Rec) (r : Rec) → is_lock r ≡ false → GrantFits before r
lockless_fits before (note.Grant u top k) lockless = absurd (cc)
lockless_fits before r lockless = tt

-- one record of no lock, and the same queues
noted_tracks : (before after : NodeState) (r : Rec) → is_lock r ≡ false → after.noted ≡ before.noted ++ r ∷ [] →
    after.queues ≡ before.queues → KeepsOwnersMatch before after
noted_tracks before after r lockless noted queues = record {
  more = r ∷ [];
  noted_is = noted;
  tells = λ recs t. subst (λ (qs : Queues). OwnersMatch (recs ++ r ∷ []) qs) (sym queues)
      (tells_on recs (r ∷ []) before.queues before.queues t.ascending
      (λ tx key. lockless_holds tx key (is_owner tx (owner_in before.queues key)) r lockless) t);
  fits = λ recs t. (lockless_fits recs r lockless, tt);
}

noting_tracks : (s : NodeState) (r : Rec) → is_lock r ≡ false → KeepsOwnersMatch s (with_note s r)
noting_tracks s r lockless = noted_tracks s (with_note s r) r lockless refl refl

-- Queues.

ascending_with : (qs : Queues) (key : Key) (q : List TxId) → IsAscending key_cmp qs →
    IsAscending key_cmp (with_queue_in qs key q)
ascending_with qs key [] up = ascending.ascending_without key_cmp key_total qs key up
ascending_with qs key (tx ∷ txs) up = ascending.ascending_put key_cmp key_total qs key (tx ∷ txs) up

with_same : (qs : Queues) (key : Key) (q : List TxId) → IsAscending key_cmp qs → queue_in (with_queue_in qs key q) key ≡ q
with_same qs key [] up = ap (λ (r : Option (List TxId)). unwrap_or r []) (laws.at_without key_cmp key_total qs key up)
with_same qs key (tx ∷ txs) up =
    ap (λ (r : Option (List TxId)). unwrap_or r []) (laws.at_put_same key_cmp key_total qs key (tx ∷ txs))

with_apart : (qs : Queues) (key k : Key) (q : List TxId) → IsAscending key_cmp qs → key_cmp k key ≢ Equal →
    queue_in (with_queue_in qs key q) k ≡ queue_in qs k
with_apart qs key k [] up apart = ap (λ (r : Option (List TxId)). unwrap_or r [])
    (laws.at_without_other key_cmp key_total qs key k up apart)
with_apart qs key k (tx ∷ txs) up apart =
    ap (λ (r : Option (List TxId)). unwrap_or r []) (laws.at_put_other key_cmp key_total qs key k (tx ∷ txs) apart)

-- Grants.

no_other : (tx o : TxId) → other_owner tx (Some o) ≡ None → o ≡ tx
no_other tx o free =
    elim (same_tx tx o) as (λ b. same_tx tx o ≡ b → (if b then None else Some o) ≡ None → o ≡ tx) [
      | true ↦ λ g free. sym (same_tx_true tx o g)
      | false ↦ λ g free. absurd (cc)
    ] refl free

or_same : (b c : Bool) → c ≡ b → (b || (c && true)) ≡ b
or_same true c is = refl
or_same false c is = rw is refl

granted_owner : (u tx : TxId) (q : List TxId) → other_owner tx (slice_get q 0) ≡ None →
    (is_owner u (slice_get q 0) || (same_tx tx u && true)) ≡ is_owner u (slice_get (q ++ tx ∷ []) 0)
granted_owner u tx [] free = and_true (same_tx tx u) ∙ tx_equiv.symm tx u
granted_owner u tx (x ∷ q) free =
    subst (λ (o : TxId). (same_tx u o || (same_tx tx u && true)) ≡ same_tx u o) (sym (no_other tx x free))
    (or_same (same_tx u tx) (same_tx tx u) (tx_equiv.symm tx u))

granted : (qs : Queues) (tx : TxId) (top : TopVer) (key : Key) → IsAscending key_cmp qs →
    other_owner tx (owner_in qs key) ≡ None → (u : TxId) (k : Key) →
    holds_after u k (is_owner u (owner_in qs k)) (note.Grant tx top key ∷ []) ≡ is_owner u (owner_in (queues_with qs tx key) k)
granted qs tx top key up free u k =
    by_key (λ (x : Key). (is_owner u (owner_in qs x) || (same_tx tx u && same_key key x)) ≡ is_owner u
    (owner_in (queues_with qs tx key) x)) key k
    (rw (key_equiv.refl key, with_same qs key (queue_in qs key ++ tx ∷ []) up) (granted_owner u tx (queue_in qs key) free))
    (λ apart other. granted_apart (is_owner u (owner_in qs k)) (same_tx tx u) (same_key key k) other
    ∙ ap (λ (q : List TxId). is_owner u (slice_get q 0)) (sym (with_apart qs key k (queue_in qs key ++ tx ∷ []) up apart)))

others_free : (u tx : TxId) (owner : Option TxId) → other_owner tx owner ≡ None → same_tx u tx ≡ false →
    is_owner u owner ≡ false
others_free u tx None free other = refl
others_free u tx (Some o) free other = subst (λ (x : TxId). same_tx u x ≡ false) (sym (no_other tx o free)) other

-- a grant of a key that no other transaction owns, with whatever else changes
grant_tracks : (s after : NodeState) (tx : TxId) (top : TopVer) (key : Key) → after.noted ≡ s.noted ++ note.Grant tx top key
    ∷ [] → after.queues ≡ queues_with s.queues tx key → other_owner tx (owner_at s key) ≡ None → KeepsOwnersMatch s after
grant_tracks s after tx top key noted queues free = record {
  more = note.Grant tx top key ∷ [];
  noted_is = noted;
  tells = λ recs t. subst (λ (qs : Queues). OwnersMatch (recs ++ note.Grant tx top key ∷ []) qs) (sym queues)
      (tells_on recs (note.Grant tx top key ∷ []) s.queues (queues_with s.queues tx key)
      (ascending_with s.queues key (queue_in s.queues key ++ tx ∷ []) t.ascending)
      (granted s.queues tx top key t.ascending free) t);
  fits = λ recs t. (λ u other. t.owners u key ∙ others_free u tx (owner_in s.queues key) free other, tt);
}

-- Places.

queued_owner : (tx owner : TxId) (q : List TxId) → slice_get q 0 ≡ Some owner → slice_get q 0 ≡ slice_get (q ++ tx ∷ []) 0
queued_owner tx owner [] is = absurd (cc)
queued_owner tx owner (x ∷ q) is = refl

queued : (qs : Queues) (tx owner : TxId) (key : Key) → IsAscending key_cmp qs → owner_in qs key ≡ Some owner →
    (u : TxId) (k : Key) →
    is_owner u (owner_in qs k) ≡ is_owner u (owner_in (queues_with qs tx key) k)
queued qs tx owner key up is u k =
    by_key (λ (x : Key). is_owner u (owner_in qs x) ≡ is_owner u (owner_in (queues_with qs tx key) x)) key k
    (rw (with_same qs key (queue_in qs key ++ tx ∷ []) up) (ap (is_owner u) (queued_owner tx owner (queue_in qs key) is)))
    (λ apart other. ap (λ (q : List TxId). is_owner u (slice_get q 0))
    (sym (with_apart qs key k (queue_in qs key ++ tx ∷ []) up apart)))

placed_tracks : (s : NodeState) (from : NodeId) (tx : TxId) (top : TopVer) (key : Key) (owner : Option TxId) →
    owner_at s key ≡ owner → KeepsOwnersMatch s (after_lock_behind s from tx top key owner)
placed_tracks s from tx top key None is = grant_tracks s (after_grant (with_queued s tx key) from tx top key) tx top key refl
    refl (ap (other_owner tx) is)
placed_tracks s from tx top key (Some owner) is = record {
  more = note.Queue tx key owner ∷ [];
  noted_is = refl;
  tells = λ recs t. tells_on recs (note.Queue tx key owner ∷ []) s.queues (queues_with s.queues tx key)
      (ascending_with s.queues key (queue_in s.queues key ++ tx ∷ []) t.ascending)
      (queued s.queues tx owner key t.ascending is) t;
  fits = λ recs t. (tt, tt);
}

-- Releases.

-- the owner holds nothing behind its Drop, and no other did before
owner_dropped : (u tx : TxId) (owner : Option TxId) → is_owner tx owner ≡ true →
    (is_owner u owner && not (same_tx tx u && true)) ≡ false
owner_dropped u tx None is = refl
owner_dropped u tx (Some o) is =
    subst (λ (x : TxId). (same_tx u x && not (same_tx tx u && true)) ≡ false) (same_tx_true tx o is)
    (rw (tx_equiv.symm tx u)
    (elim (same_tx u tx) as (λ b. (b && not (b && true)) ≡ false) [
      | true ↦ refl
      | false ↦ refl
    ]))

-- any other transaction that is first stays so
first_kept : (u tx : TxId) (q : List TxId) → is_owner tx (slice_get q 0) ≡ false →
    (is_owner u (slice_get q 0) && not (same_tx tx u && true)) ≡ is_owner u (slice_get (queue_without tx q) 0)
first_kept u tx [] other = refl
first_kept u tx (x ∷ q) other =
    rw (tx_equiv.symm x tx, other)
    (elim (same_tx u x) as (λ b. same_tx u x ≡ b → (b && not (same_tx tx u && true)) ≡ b) [
      | true ↦ λ g. rw (same_tx_true u x g, other) refl
      | false ↦ λ g. refl
    ] refl)

left_goes : (qs : Queues) (tx : TxId) (key : Key) → IsAscending key_cmp qs → is_owner tx (owner_in qs key) ≡ false →
    (u : TxId) (k : Key) →
    holds_after u k (is_owner u (owner_in qs k)) (note.Drop tx key ∷ []) ≡ is_owner u (owner_in (queues_without qs tx key) k)
left_goes qs tx key up other u k =
    by_key (λ (x : Key). (is_owner u (owner_in qs x) && not (same_tx tx u && same_key key x)) ≡ is_owner u
    (owner_in (queues_without qs tx key) x)) key k
    (rw (key_equiv.refl key, with_same qs key (queue_without tx (queue_in qs key)) up)
    (first_kept u tx (queue_in qs key) other))
    (λ apart differs. dropped_apart (is_owner u (owner_in qs k)) (same_tx tx u) (same_key key k) differs
    ∙ ap (λ (q : List TxId). is_owner u (slice_get q 0))
    (sym (with_apart qs key k (queue_without tx (queue_in qs key)) up apart)))

none_left : (qs : Queues) (tx : TxId) (key : Key) → IsAscending key_cmp qs → is_owner tx (owner_in qs key) ≡ true →
    owner_in (queues_without qs tx key) key ≡ None → (u : TxId) (k : Key) →
    holds_after u k (is_owner u (owner_in qs k)) (note.Drop tx key ∷ []) ≡ is_owner u (owner_in (queues_without qs tx key) k)
none_left qs tx key up is none u k =
    by_key (λ (x : Key). (is_owner u (owner_in qs x) && not (same_tx tx u && same_key key x)) ≡ is_owner u
    (owner_in (queues_without qs tx key) x)) key k
    (rw (key_equiv.refl key, none) (owner_dropped u tx (owner_in qs key) is))
    (λ apart differs. dropped_apart (is_owner u (owner_in qs k)) (same_tx tx u) (same_key key k) differs
    ∙ ap (λ (q : List TxId). is_owner u (slice_get q 0))
    (sym (with_apart qs key k (queue_without tx (queue_in qs key)) up apart)))

next_owns : (qs : Queues) (tx next : TxId) (top : TopVer) (key : Key) → IsAscending key_cmp qs →
    is_owner tx (owner_in qs key) ≡ true → owner_in (queues_without qs tx key) key ≡ Some next → (u : TxId) (k : Key) →
    holds_after u k (is_owner u (owner_in qs k)) (note.Drop tx key ∷ note.Grant next top key ∷ []) ≡ is_owner u
    (owner_in (queues_without qs tx key) k)
next_owns qs tx next top key up is some u k =
    by_key (λ (x : Key). ((is_owner u (owner_in qs x) && not (same_tx tx u && same_key key x))
    || (same_tx next u && same_key key x)) ≡ is_owner u (owner_in (queues_without qs tx key) x)) key k
    (rw (key_equiv.refl key, some, owner_dropped u tx (owner_in qs key) is) (and_true (same_tx next u) ∙ tx_equiv.symm next u))
    (λ apart differs.
    granted_apart _ (same_tx next u) (same_key key k) differs
    ∙ dropped_apart (is_owner u (owner_in qs k)) (same_tx tx u) (same_key key k) differs
    ∙ ap (λ (q : List TxId). is_owner u (slice_get q 0))
    (sym (with_apart qs key k (queue_without tx (queue_in qs key)) up apart)))

-- the key is free behind the Drop of its owner
dropped_free : (recs : List Rec) (qs : Queues) (tx : TxId) (key : Key) (u : TxId) → OwnersMatch recs qs →
    is_owner tx (owner_in qs key) ≡ true → holds_after u key false (recs ++ note.Drop tx key ∷ []) ≡ false
dropped_free recs qs tx key u t is =
    holds_append u key false recs (note.Drop tx key ∷ [])
    ∙ ap (λ (h : Bool). h && not (same_tx tx u && same_key key key)) (t.owners u key)
    ∙ rw (key_equiv.refl key) (owner_dropped u tx (owner_in qs key) is)

drop_tracks : (s : NodeState) (tx : TxId) (key : Key) →
    (IsAscending key_cmp s.queues → (u : TxId) (k : Key) → holds_after u k (is_owner u (owner_in s.queues k))
    (note.Drop tx key ∷ []) ≡ is_owner u (owner_in (queues_without s.queues tx key) k)) →
    KeepsOwnersMatch s (with_note (after_leave s tx key) (note.Drop tx key))
drop_tracks s tx key goes = record {
  more = note.Drop tx key ∷ [];
  noted_is = refl;
  tells = λ recs t. tells_on recs (note.Drop tx key ∷ []) s.queues (queues_without s.queues tx key)
      (ascending_with s.queues key (queue_without tx (queue_in s.queues key)) t.ascending) (goes t.ascending) t;
  fits = λ recs t. (tt, tt);
}

passed_tracks : (s : NodeState) (tx : TxId) (key : Key) (was : Bool) (owner : Option TxId) →
    is_owner tx (owner_at s key) ≡ was → owner_in (queues_without s.queues tx key) key ≡ owner →
    KeepsOwnersMatch s (after_pass_on (with_note (after_leave s tx key) (note.Drop tx key)) key was owner)
passed_tracks s tx key true (Some next) is next_is =
    let top = installed_top (with_note (after_leave s tx key) (note.Drop tx key)) in
    record {
      more = note.Drop tx key ∷ note.Grant next top key ∷ [];
      noted_is = append_twice s.noted (note.Drop tx key ∷ []) (note.Grant next top key ∷ []);
      tells = λ recs t. tells_on recs (note.Drop tx key ∷ note.Grant next top key ∷ []) s.queues
          (queues_without s.queues tx key) (ascending_with s.queues key (queue_without tx (queue_in s.queues key))
          t.ascending) (next_owns s.queues tx next top key t.ascending is next_is) t;
      fits = λ recs t. (tt, (λ u other. dropped_free recs s.queues tx key u t is, tt));
    }
passed_tracks s tx key true None is none = drop_tracks s tx key (λ up. none_left s.queues tx key up is none)
passed_tracks s tx key false owner other still_is = drop_tracks s tx key (λ up. left_goes s.queues tx key up other)

-- every small step goes on telling of the lock queues
tracking_plain : ClosedUnderSteps KeepsOwnersMatch
tracking_plain = record {
  nothing = λ s. still s s refl refl;
  andthen = andthen;
  aside = λ before after same. still before after (ap (λ (c : PlainFrame). c.noted) same)
      (ap (λ (c : PlainFrame). c.queues) same);
  noting = λ s r own lockless other. noting_tracks s r lockless;
  sent_all = λ s outs plain. still s (with_outs s outs) refl refl;
  placed = λ s from tx top key. placed_tracks s from tx top key (owner_at s key) refl;
  released = λ s tx key. passed_tracks s tx key (is_owner tx (owner_at s key)) (owner_in (queues_without s.queues tx key) key)
      refl refl;
  owned = λ s tx top key free. grant_tracks s (with_note (with_queued s tx key) (note.Grant tx top key)) tx top key refl refl
      free;
}

pub tracking : ClosedUnderAllSteps KeepsOwnersMatch
tracking = record {
  plain = tracking_plain;
  learns = λ s event. still s (after_learn s event) refl refl;
  keeps_single = λ s single. still s (record s { singles = s.singles ++ single ∷ [] }) refl refl;
  drops_singles = λ s top. still s (without_singles s top) refl refl;
  drops_lost = λ s who. still s (without_single s who) refl refl;
  installs = λ s m. noted_tracks s (after_install s m) (note.Install m) refl refl refl;
  exchanges = λ s x. still s (record s { exchange = x }) refl refl;
  opens = λ s top. noted_tracks s (with_note (record s { opened = Some top }) (note.Opened top)) (note.Opened top) refl refl
      refl;
  marks_single = λ s. still s (record s { single_sent = Some s.seen }) refl refl;
  sends = λ s outs. still s (with_outs s outs) refl refl;
}

-- a record that is no lock changes nothing of who holds what
pub lockless_tells : (recs : List Rec) (r : Rec) (queues : Queues) → is_lock r ≡ false → OwnersMatch recs queues →
    OwnersMatch (recs ++ r ∷ []) queues
lockless_tells recs r queues lockless t = tells_on recs (r ∷ []) queues queues t.ascending
    (λ tx key. lockless_holds tx key (is_owner tx (owner_in queues key)) r lockless) t
