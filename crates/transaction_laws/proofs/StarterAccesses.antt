-- What a starter's rows do for accesses is made of the atoms of the near side.
use Rattle.std.proofs.Common.{◌≡◌, List, Bool, true, false, if◌then◌else◌, Option, Some, None, Result, Ok, Err, refl, ap, sym, subst, ◌∙◌, ℕ, length}
use Rattle.std.specs.Prelude.{nat_le}
use Rattle.std.specs.Cmp.{IsEquivalence, and_equiv, nat_eq_equiv, on_equiv}
use Rattle.std.specs.Cmp.Lexicographic.{nat_list_eq_equiv}
use Rattle.std.specs.Option.{option_and_then}
use Rattle.std.specs.Ordering.{nat_cmp}
use Rattle.act_rows.specs.Accesses.{access_key, after_access, after_access_at, after_access_done, after_access_refused, after_add, after_known_access, after_near_hit, after_new_access, after_new_key, after_optimistic_access, after_optimistic_read, after_run_access, after_run_command, answer_of_value, is_near_kept, is_pending_access, is_that_key, most_keys, value_at, with_outcome, with_touched, with_write}
use Rattle.act_rows.specs.Steps.{entry_of, is_live, near_of, on_entry, primary_at, with_near}
use Rattle.ignite_types.proofs.NameLaws.{tx_total}
use Rattle.part_model.specs.NearEntries.{near_entry, near_front}
use Rattle.part_model.specs.Numbers.{sum_with_value}
use Rattle.part_model.specs.declared.near.NearEntry.{NearEntry}
use Rattle.ignite_types.specs.Names.{key_cmp, same_key, tx_cmp}
use Rattle.ignite_types.specs.declared.answer.Answer.{Answer}
use Rattle.ignite_types.specs.declared.journal.Rec.{Rec}
use Rattle.ignite_types.specs.declared.names.NodeId.{NodeId}
use Rattle.ignite_types.specs.declared.names.TopVer.{TopVer}
use Rattle.ignite_types.specs.declared.names.TxId.{TxId}
use Rattle.ignite_types.specs.declared.scenario.Command.{Command}
use Rattle.ignite_types.specs.declared.scenario.Mode.{Mode}
use Rattle.ignite_types.specs.declared.text.Key.{Key}
use Rattle.node_state.specs.declared.near.TxEntry.{TxEntry}
use Rattle.node_state.specs.Node.{NodeState}
use Rattle.ordered_set.specs.Members.{has, with_member}
use Rattle.ordered_table.proofs.Laws as laws
use Rattle.ordered_table.specs.Entries.{at, put}
use Rattle.ignite_types.specs.declared.answer.Answer.TheVariants as answer
use Rattle.ignite_types.specs.declared.answer.Fault.TheVariants as fault
use Rattle.ignite_types.specs.declared.scenario.Command.TheVariants as command
use Rattle.ignite_types.specs.declared.scenario.Mode.TheVariants as mode
use Rattle.transaction_laws.proofs.KeySets.{has_itself}
use Rattle.transaction_laws.specs.StarterFacts.{IsActing, KnowsKey, StarterInAct}
use Rattle.transaction_laws.specs.StarterKits.{StarterKit}
use Rattle.transaction_laws.proofs.StarterAtoms as atoms
use Rattle.transaction_laws.proofs.StarterAtoms.{Goes, Still, active_change, active_shape, active_is_open}

pub key_equiv : IsEquivalence same_key
key_equiv = and_equiv (on_equiv (λ (k : Key). k.cache) nat_eq_equiv) (on_equiv (λ (k : Key). k.text) nat_list_eq_equiv)

-- the same entries and session's states
abbrev pub acts_moved : (s s2 : NodeState) (tx : TxId) (top : TopVer) → s2.txs ≡ s.txs →
    s2.session_states ≡ s.session_states → IsActing s tx top → IsActing s2 tx top
acts_moved s s2 tx top txs session_states a = record {
  entry = a.entry;
  there = ap (λ es. at tx_cmp es tx) txs ∙ a.there;
  active = a.active;
  version = a.version;
  no_get = a.no_get;
  session_state = a.session_state;
  session_state_there = ap (λ es. at nat_cmp es tx.session) session_states ∙ a.session_state_there;
  busy = a.busy;
}

module _ (past : List Rec) (most : ℕ) (R : NodeState → NodeState → Type 0) (kit : StarterKit past most R) where
  abbrev G : NodeState → NodeState → Type 0
  G = Goes past most R kit

  seq : (a b c : NodeState) → G a b → (StarterInAct past b → G b c) → G a c
  seq = atoms.seq past most R kit

  seq_still : (tx : TxId) (top : TopVer) (a b c : NodeState) → Still past most R kit tx top a b →
      (StarterInAct past b → IsActing b tx top → G b c) → G a c
  seq_still = atoms.seq_still past most R kit

  pub either_goes : (s x y : NodeState) (b : Bool) → (b ≡ true → G s x) → (b ≡ false → G s y) → G s (if b then x else y)
  either_goes s x y true first second = first refl
  either_goes s x y false first second = second refl

  -- Accesses.

  access_done_goes : (s : NodeState) (tx : TxId) (top : TopVer) (block : Bool) (x : Answer) → IsActing s tx top →
      StarterInAct past s → G s (after_access_done s tx top block x)
  access_done_goes s tx top true x a i = atoms.answered_active past most R kit s tx top x a i
  access_done_goes s tx top false x a i =
      seq_still tx top s (with_outcome s tx x) _ (atoms.takes_outcome_still past most R kit s tx top x a i)
      (λ j b. atoms.commits_goes past most R kit (with_outcome s tx x) tx top b j)

  access_refused_goes : (s : NodeState) (tx : TxId) (top : TopVer) (block : Bool) (x : Answer) → IsActing s tx top →
      StarterInAct past s → G s (after_access_refused s tx block x)
  access_refused_goes s tx top true x a i = atoms.answered_active past most R kit s tx top x a i
  access_refused_goes s tx top false x a i =
      seq_still tx top s (with_outcome s tx x) _ (atoms.takes_outcome_still past most R kit s tx top x a i)
      (λ j b. atoms.active_decides past most R kit (with_outcome s tx x) tx top b false tt j)

  writes_goes : (s : NodeState) (tx : TxId) (top : TopVer) (block : Bool) (key : Key) (new : Option (List ℕ)) (x : Answer)
      (a : IsActing s tx top) → has key_cmp a.entry.keys key ≡ true → StarterInAct past s →
      G s (after_access_done (with_write s tx key new) tx top block x)
  writes_goes s tx top block key new x a known i =
      seq_still tx top s (with_write s tx key new) _ (atoms.keeps_write_still past most R kit s tx top key new a known i)
      (λ j b. access_done_goes (with_write s tx key new) tx top block x b j)

  adds_goes : (s : NodeState) (tx : TxId) (top : TopVer) (block : Bool) (key : Key) (r : Result (List ℕ) Answer)
      (a : IsActing s tx top) → has key_cmp a.entry.keys key ≡ true → StarterInAct past s → G s (after_add s tx top block key r)
  adds_goes s tx top block key (Ok value) a known i = writes_goes s tx top block key (Some value) (answer.Found value) a known i
  adds_goes s tx top block key (Err x) a known i = access_refused_goes s tx top block x a i

  pub does_known_goes : (s : NodeState) (tx : TxId) (top : TopVer) (block : Bool) (c : Command) (a : IsActing s tx top) →
      KnowsKey a.entry c → StarterInAct past s → G s (after_known_access s tx top block c)
  does_known_goes s tx top block (command.Get key) a known i =
      access_done_goes s tx top block (answer_of_value (value_at (entry_of s tx) key)) a i
  does_known_goes s tx top block (command.Put key value) a known i = writes_goes s tx top block key (Some value) answer.Done a
      (known key refl) i
  does_known_goes s tx top block (command.Remove key) a known i = writes_goes s tx top block key None answer.Done a
      (known key refl) i
  does_known_goes s tx top block (command.Add key amount) a known i =
      adds_goes s tx top block key (sum_with_value (value_at (entry_of s tx) key) amount) a (known key refl) i
  does_known_goes s tx top block _ a known i = atoms.idle_goes past most R kit s i

  -- optimistic accesses

  touches_still : (s : NodeState) (tx : TxId) (top : TopVer) (key : Key) (a : IsActing s tx top) →
      a.entry.mode ≡ mode.Optimistic → StarterInAct past s → Still past most R kit tx top s (with_touched s tx key)
  touches_still s tx top key a free i =
      let f : TxEntry → TxEntry = λ (e : TxEntry). record e { keys = with_member key_cmp e.keys key } in
      let change = active_change past s tx top a (f a.entry) i refl refl (active_shape past most R kit s tx top a i) a.no_get in (
        subst (λ z. StarterInAct past (on_entry s tx f z)) (sym a.there) change.0,
        kit.touched s tx top a key i free,
        subst (λ z. IsActing (on_entry s tx f z) tx top) (sym a.there) change.1,
      )

  hit_still : (s : NodeState) (tx : TxId) (top : TopVer) (key : Key) (n : NearEntry) (a : IsActing s tx top) →
      a.entry.mode ≡ mode.Optimistic → StarterInAct past s → Still past most R kit tx top s (after_near_hit s tx key n)
  hit_still s tx top key n a free i =
      let s2 = with_near s key (near_front (near_of s key) n) in
      let b : IsActing s2 tx top = acts_moved s s2 tx top refl refl a in
      let f : TxEntry → TxEntry =
      λ (e : TxEntry). record e { reads = put key_cmp e.reads key (record { found = Some n.value; ver = n.ver }) } in
      let change = active_change past s2 tx top b (f a.entry) i refl refl (active_shape past most R kit s tx top a i) a.no_get
      in (
        subst (λ z. StarterInAct past (on_entry s2 tx f z)) (sym a.there) change.0,
        kit.hit s tx top a key n i free,
        subst (λ z. IsActing (on_entry s2 tx f z) tx top) (sym a.there) change.1,
      )

  -- the mode stays
  touched_keys : (s : NodeState) (tx : TxId) (top : TopVer) (key : Key) (a : IsActing s tx top)
      (b : IsActing (with_touched s tx key) tx top) → has key_cmp b.entry.keys key ≡ true
  touched_keys s tx top key a b =
      let f : TxEntry → TxEntry = λ (e : TxEntry). record e { keys = with_member key_cmp e.keys key } in
      let there : entry_of (with_touched s tx key) tx ≡ Some (f a.entry) =
      subst (λ z. entry_of (on_entry s tx f z) tx ≡ Some (f a.entry)) (sym a.there)
      (laws.at_put_same tx_cmp tx_total s.txs tx (f a.entry)) in
      let same : f a.entry ≡ b.entry = let mine = b.there in cc in
      subst (λ (e : TxEntry). has key_cmp e.keys key ≡ true) same (has_itself a.entry.keys key)

  hit_keys : (s : NodeState) (tx : TxId) (top : TopVer) (key : Key) (n : NearEntry) (a : IsActing s tx top)
      (b : IsActing (after_near_hit s tx key n) tx top) → b.entry.keys ≡ a.entry.keys
  hit_keys s tx top key n a b =
      let s2 = with_near s key (near_front (near_of s key) n) in
      let f : TxEntry → TxEntry =
      λ (e : TxEntry). record e { reads = put key_cmp e.reads key (record { found = Some n.value; ver = n.ver }) } in
      let there : entry_of (after_near_hit s tx key n) tx ≡ Some (f a.entry) =
      subst (λ z. entry_of (on_entry s2 tx f z) tx ≡ Some (f a.entry)) (sym a.there)
      (laws.at_put_same tx_cmp tx_total s.txs tx (f a.entry)) in
      let same : f a.entry ≡ b.entry = let mine = b.there in cc in
      ap (λ (e : TxEntry). e.keys) (sym same)

  -- a command speaks of its own key
  knows_own : (e : TxEntry) (c : Command) (key : Key) → access_key c ≡ Some key → has key_cmp e.keys key ≡ true → KnowsKey e c
  knows_own e c key is known k of_k = let same : key ≡ k = cc in subst (λ z. has key_cmp e.keys z ≡ true) same known

  touched_mode : (s : NodeState) (tx : TxId) (top : TopVer) (key : Key) (a : IsActing s tx top)
      (b : IsActing (with_touched s tx key) tx top) → b.entry.mode ≡ a.entry.mode
  touched_mode s tx top key a b =
      let f : TxEntry → TxEntry = λ (e : TxEntry). record e { keys = with_member key_cmp e.keys key } in
      let there : entry_of (with_touched s tx key) tx ≡ Some (f a.entry) =
      subst (λ z. entry_of (on_entry s tx f z) tx ≡ Some (f a.entry)) (sym a.there)
      (laws.at_put_same tx_cmp tx_total s.txs tx (f a.entry)) in
      let same : f a.entry ≡ b.entry = let mine = b.there in cc in
      ap (λ (e : TxEntry). e.mode) (sym same)

  optimistic_read_goes : (s : NodeState) (tx : TxId) (top : TopVer) (block : Bool) (c : Command) (key : Key)
      (primary : NodeId) (e : Option NearEntry) (a : IsActing s tx top) → access_key c ≡ Some key →
      a.entry.mode ≡ mode.Optimistic → primary_at s key ≡ Some primary → is_pending_access key (Some a.session_state) ≡ true →
      StarterInAct past s
      → G s (after_optimistic_read s tx top block c key primary e)
  optimistic_read_goes s tx top block c key primary (Some n) a of_key free first on i =
      let t = with_touched s tx key in
      seq_still tx top s t _ (touches_still s tx top key a free i) λ j b.
      seq_still tx top t (after_near_hit t tx key n) _ (hit_still t tx top key n b (touched_mode s tx top key a b ∙ free) j)
      λ k d. does_known_goes (after_near_hit t tx key n) tx top block c d
      (knows_own d.entry c key of_key (subst (λ z. has key_cmp z key ≡ true) (sym (hit_keys t tx top key n b d))
      (touched_keys s tx top key a b))) k
  optimistic_read_goes s tx top block c key primary None a of_key free first on i =
      atoms.asks_value_goes past most R kit s tx top a key primary (is_near_kept s key) free first on i

  touched_access_goes : (s : NodeState) (tx : TxId) (top : TopVer) (block : Bool) (c : Command) (key : Key)
      (a : IsActing s tx top) → access_key c ≡ Some key → a.entry.mode ≡ mode.Optimistic → StarterInAct past s →
      G s (after_known_access (with_touched s tx key) tx top block c)
  touched_access_goes s tx top block c key a of_key free i =
      seq_still tx top s (with_touched s tx key) _ (touches_still s tx top key a free i)
      (λ j b. does_known_goes (with_touched s tx key) tx top block c b
      (knows_own b.entry c key of_key (touched_keys s tx top key a b)) j)

  optimistic_access_goes : (s : NodeState) (tx : TxId) (top : TopVer) (block : Bool) (c : Command) (key : Key)
      (primary : NodeId) (a : IsActing s tx top) → access_key c ≡ Some key → a.entry.mode ≡ mode.Optimistic →
      primary_at s key ≡ Some primary → is_pending_access key (Some a.session_state) ≡ true → StarterInAct past s
      → G s (after_optimistic_access s tx top block c key primary)
  optimistic_access_goes s tx top block (command.Get k) key primary a of_key free first on i =
      optimistic_read_goes s tx top block (command.Get k) key primary (near_entry (near_of s key) key) a of_key free first on i
  optimistic_access_goes s tx top block (command.Add k amount) key primary a of_key free first on i =
      optimistic_read_goes s tx top block (command.Add k amount) key primary (near_entry (near_of s key) key) a of_key free
      first on i
  optimistic_access_goes s tx top block c key primary a of_key free first on i =
      touched_access_goes s tx top block c key a of_key free i

  -- a new key

  new_access_goes : (s : NodeState) (tx : TxId) (top : TopVer) (block : Bool) (c : Command) (key : Key) (primary : NodeId)
      (m : Mode) (a : IsActing s tx top) → access_key c ≡ Some key → a.entry.mode ≡ m → has key_cmp a.entry.keys key ≡ false →
      primary_at s key ≡ Some primary
      → is_pending_access key (Some a.session_state) ≡ true → StarterInAct past s →
      G s (after_new_access s tx top block c key primary m)
  new_access_goes s tx top block c key primary mode.Pessimistic a of_key locks fresh first on i =
      atoms.asks_lock_goes past most R kit s tx top a key primary locks fresh first on i
  new_access_goes s tx top block c key primary mode.Optimistic a of_key free fresh first on i =
      optimistic_access_goes s tx top block c key primary a of_key free first on i

  new_key_goes : (s : NodeState) (tx : TxId) (top : TopVer) (block : Bool) (c : Command) (key : Key) (primary : NodeId)
      (a : IsActing s tx top) → access_key c ≡ Some key → has key_cmp a.entry.keys key ≡ false →
      primary_at s key ≡ Some primary → is_pending_access key (Some a.session_state) ≡ true → StarterInAct past s
      → G s (after_new_key s tx top block c key primary a.entry)
  new_key_goes s tx top block c key primary a of_key fresh first on i =
      either_goes s _ _ (nat_le most_keys (length a.entry.keys))
      (λ many. access_refused_goes s tx top block answer.TooManyKeys a i)
      (λ few. either_goes s _ _ (is_live s primary)
      (λ live. new_access_goes s tx top block c key primary a.entry.mode a of_key refl fresh first on i)
      (λ gone. atoms.fails_goes past most R kit s tx a.entry (fault.NodeLost primary) a.there
      (active_is_open past most R kit s tx top a) i))

  accesses_at_goes : (s : NodeState) (tx : TxId) (top : TopVer) (block : Bool) (c : Command) (key : Key)
      (primary : Option NodeId) (a : IsActing s tx top) → access_key c ≡ Some key → primary_at s key ≡ primary →
      is_pending_access key (Some a.session_state) ≡ true → StarterInAct past s →
      G s (after_access_at s tx top block c key primary a.entry)
  accesses_at_goes s tx top block c key None a of_key first on i =
      access_refused_goes s tx top block (answer.NoCache key.cache) a i
  accesses_at_goes s tx top block c key (Some primary) a of_key first on i =
      either_goes s _ _ (has key_cmp a.entry.keys key)
      (λ known. does_known_goes s tx top block c a (knows_own a.entry c key of_key known) i)
      (λ fresh. new_key_goes s tx top block c key primary a of_key fresh first on i)

  pub does_goes : (s : NodeState) (tx : TxId) (top : TopVer) (block : Bool) (c : Command) (a : IsActing s tx top) →
      a.session_state.pending ≡ Some c → StarterInAct past s → G s (after_run_command s tx top block c)
  does_goes s tx top block c a given i = by_key c (access_key c) refl given
    where
      on : (c : Command) (key : Key) → access_key c ≡ Some key → a.session_state.pending ≡ Some c →
          is_pending_access key (Some a.session_state) ≡ true
      on c key is given = subst (λ z. is_that_key key (option_and_then access_key z) ≡ true) (sym given)
          (rw is (key_equiv.refl key))

      by_key : (c : Command) (key : Option Key) → access_key c ≡ key → a.session_state.pending ≡ Some c →
          G s (after_run_access s tx top block c key)
      by_key c (Some key) is given = subst (λ z. G s (after_access s tx top block c key z)) (sym a.there)
          (accesses_at_goes s tx top block c key (primary_at s key) a is refl (on c key is given) i)
      by_key command.Commit None is given = atoms.commits_goes past most R kit s tx top a i
      by_key c None is given = atoms.idle_goes past most R kit s i
