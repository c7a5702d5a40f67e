-- What a starter does when it sees a node leave is made of the atoms of the near side.
use Rattle.std.proofs.Common.{◌≡◌, ℕ, List, [], ◌∷◌, true, if◌then◌else◌, Option, Some, None, refl, ap, sym, subst}
use Rattle.std.specs.Option.{is_some, option_and_then}
use Rattle.act_rows.specs.Accesses.{after_backup_finished_at_starter}
use Rattle.act_rows.specs.Decisions.{after_fail, after_left_at_starter, after_left_decided, after_left_for_each, after_left_for_tx, after_left_in_state, after_left_undecided, entry_after_left, primaries_at, txs_of}
use Rattle.act_rows.specs.Searches.{after_left_at_each_search, after_left_at_searches, is_cut, search_of}
use Rattle.act_rows.specs.Steps.{entry_of, on_entry}
use Rattle.ignite_types.specs.Names.{share_cmp}
use Rattle.ignite_types.specs.declared.journal.Rec.{Rec}
use Rattle.ignite_types.specs.declared.names.NodeId.{NodeId}
use Rattle.ignite_types.specs.declared.names.TxId.{TxId}
use Rattle.ignite_types.specs.declared.placement.Share.{Share}
use Rattle.node_state.specs.Node.{NodeState}
use Rattle.node_state.specs.declared.near.Search.{Search}
use Rattle.node_state.specs.declared.near.TxEntry.{TxEntry}
use Rattle.node_state.specs.declared.near.TxState.{TxState}
use Rattle.ordered_set.specs.Members.{without_member}
use Rattle.part_model.specs.NextMap.{has_node}
use Rattle.ignite_types.specs.declared.answer.Fault.TheVariants as fault
use Rattle.node_state.specs.declared.near.TxState.TheVariants as state
use Rattle.transaction_laws.proofs.StarterAccesses as walk
use Rattle.transaction_laws.proofs.StarterAnswers.{no_search, same_core}
use Rattle.transaction_laws.proofs.StarterAtoms as atoms
use Rattle.transaction_laws.proofs.StarterAtoms.{Goes, no_more}
use Rattle.transaction_laws.specs.StarterFacts.{HasShape, StarterInAct}
use Rattle.transaction_laws.specs.StarterKits.{StarterKit, is_finishing}
use Rattle.transaction_laws.specs.StarterStates.{is_open}

-- what is awaited of a decided transaction says nothing of its shape
still_shaped : (st : TxState) (e : TxEntry) (awaited : List NodeId) (backups : List Share) → is_finishing st ≡ true →
    HasShape st e → HasShape st (record e { awaited = awaited; backups = backups })
still_shaped state.Committing e awaited backups over shape = shape
still_shaped state.RollingBack e awaited backups over shape = shape
still_shaped state.Idle e awaited backups over shape = absurd (cc (over))
still_shaped state.Active e awaited backups over shape = absurd (cc (over))
still_shaped state.Waiting e awaited backups over shape = absurd (cc (over))
still_shaped state.Searching e awaited backups over shape = absurd (cc (over))
still_shaped state.Preparing e awaited backups over shape = absurd (cc (over))
still_shaped state.Ended e awaited backups over shape = absurd (cc (over))

module _ (past : List Rec) (most : ℕ) (R : NodeState → NodeState → Type 0) (kit : StarterKit past most R) where
  abbrev G : NodeState → NodeState → Type 0
  G = Goes past most R kit

  left_decided_goes : (s : NodeState) (tx : TxId) (e : TxEntry) (node : NodeId) → entry_of s tx ≡ Some e →
      is_finishing e.state ≡ true → StarterInAct past s → G s (after_left_decided s tx node e)
  left_decided_goes s tx e node there over i =
      let e2 : TxEntry = entry_after_left s node e in (
        subst (λ (z : Option TxEntry). StarterInAct past (on_entry s tx (entry_after_left s node) z)) (sym there)
            (same_core past s tx e e2 i there refl refl refl refl refl (still_shaped e.state e e2.awaited e2.backups over
            (no_more past s i tx e there).shape)),
        kit.left s tx e node i there over,
      )

  left_undecided_goes : (s : NodeState) (tx : TxId) (e : TxEntry) (node : NodeId) → entry_of s tx ≡ Some e →
      is_open e.state ≡ true → StarterInAct past s → G s (after_left_undecided s tx node e)
  left_undecided_goes s tx e node there free i =
      walk.either_goes past most R kit s (after_fail s tx (fault.NodeLost node)) s (has_node (primaries_at s e.keys) node)
      (λ own. atoms.fails_goes past most R kit s tx e (fault.NodeLost node) there free i)
      (λ other. atoms.idle_goes past most R kit s i)

  left_for_tx_goes : (s : NodeState) (tx : TxId) (node : NodeId) (o : Option TxEntry) → entry_of s tx ≡ o →
      StarterInAct past s → G s (after_left_for_tx s tx node o)
  left_for_tx_goes s tx node None there i = atoms.idle_goes past most R kit s i
  left_for_tx_goes s tx node (Some e) there i = by e.state refl
    where
      by : (st : TxState) → e.state ≡ st → G s (after_left_in_state s tx node e st)
      by state.Searching is = atoms.idle_goes past most R kit s i
      by state.Ended is = atoms.idle_goes past most R kit s i
      by state.Committing is = left_decided_goes s tx e node there (ap is_finishing is) i
      by state.RollingBack is = left_decided_goes s tx e node there (ap is_finishing is) i
      by state.Idle is = left_undecided_goes s tx e node there (ap is_open is) i
      by state.Active is = left_undecided_goes s tx e node there (ap is_open is) i
      by state.Waiting is = left_undecided_goes s tx e node there (ap is_open is) i
      by state.Preparing is = left_undecided_goes s tx e node there (ap is_open is) i

  left_for_each_goes : (s : NodeState) (node : NodeId) (txs : List TxId) → StarterInAct past s →
      G s (after_left_for_each s node txs)
  left_for_each_goes s node [] i = atoms.idle_goes past most R kit s i
  left_for_each_goes s node (tx ∷ txs) i =
      let next = after_left_for_tx s tx node (entry_of s tx) in
      atoms.seq past most R kit s next _ (left_for_tx_goes s tx node (entry_of s tx) refl i)
      (λ j. left_for_each_goes next node txs j)

  pub left_at_starter_goes : (s : NodeState) (node : NodeId) → StarterInAct past s → G s (after_left_at_starter s node)
  left_at_starter_goes s node i = left_for_each_goes s node (txs_of s) i

  -- a search that the loss cuts
  left_at_search_goes : (s : NodeState) (node : NodeId) (tx : TxId) → StarterInAct past s →
      G s (if is_cut node (search_of s tx) then after_fail s tx (fault.Cut node) else s)
  left_at_search_goes s node tx i =
      walk.either_goes past most R kit s (after_fail s tx (fault.Cut node)) s (is_cut node (search_of s tx))
      (λ cut. by (entry_of s tx) refl cut) (λ stays. atoms.idle_goes past most R kit s i)
    where
      by_search : (e : TxEntry) → entry_of s tx ≡ Some e → (o : Option Search) → e.search ≡ o → is_cut node o ≡ true →
          G s (after_fail s tx (fault.Cut node))
      by_search e there None is cut = absurd (cc (cut))
      by_search e there (Some search) is cut =
          let searching = no_search e.state e (no_more past s i tx e there).shape (ap is_some is) in
          atoms.fails_goes past most R kit s tx e (fault.Cut node) there (ap is_open searching) i

      by : (o : Option TxEntry) → entry_of s tx ≡ o → is_cut node (option_and_then (λ (e : TxEntry). e.search) o) ≡ true →
          G s (after_fail s tx (fault.Cut node))
      by None there cut = absurd (cc (cut))
      by (Some e) there cut = by_search e there e.search refl cut

  left_at_each_search_goes : (s : NodeState) (node : NodeId) (txs : List TxId) → StarterInAct past s →
      G s (after_left_at_each_search s node txs)
  left_at_each_search_goes s node [] i = atoms.idle_goes past most R kit s i
  left_at_each_search_goes s node (tx ∷ txs) i =
      let next = if is_cut node (search_of s tx) then after_fail s tx (fault.Cut node) else s in
      atoms.seq past most R kit s next _ (left_at_search_goes s node tx i) (λ j. left_at_each_search_goes next node txs j)

  pub left_at_searches_goes : (s : NodeState) (node : NodeId) → StarterInAct past s → G s (after_left_at_searches s node)
  left_at_searches_goes s node i = left_at_each_search_goes s node (txs_of s) i

  -- a holder of a lost primary's share has answered
  pub backup_finished_goes : (s : NodeState) (from : NodeId) (tx : TxId) (primary : NodeId) → StarterInAct past s →
      G s (after_backup_finished_at_starter s from tx primary)
  backup_finished_goes s from tx primary i = by (entry_of s tx) refl
    where
      f : TxEntry → TxEntry
      f e = record e { backups = without_member share_cmp e.backups (record { holder = from; primary = primary }) }

      shaped : (e : TxEntry) (st : TxState) → HasShape st e → HasShape st (f e)
      shaped e state.Idle shape = shape
      shaped e state.Active shape = shape
      shaped e state.Waiting shape = shape
      shaped e state.Searching shape = shape
      shaped e state.Preparing shape = shape
      shaped e state.Committing shape = shape
      shaped e state.RollingBack shape = shape
      shaped e state.Ended shape = (
        shape.0,
        shape.1,
        shape.2,
        shape.3,
        ap (λ (bs : List Share). without_member share_cmp bs (record { holder = from; primary = primary })) shape.4,
      )

      by : (o : Option TxEntry) → entry_of s tx ≡ o → G s (after_backup_finished_at_starter s from tx primary)
      by None there = subst (λ (z : Option TxEntry). G s (on_entry s tx f z)) (sym there) (atoms.idle_goes past most R kit s i)
      by (Some e) there = (
        subst (λ (z : Option TxEntry). StarterInAct past (on_entry s tx f z)) (sym there)
            (same_core past s tx e (f e) i there refl refl refl refl refl
            (shaped e e.state (no_more past s i tx e there).shape)),
        kit.backed s from tx primary e i there,
      )
