-- Each act of a node keeps what is true of locks, and what the records tell of the node's transactions, as long as no message
-- of topology is on its way.
use Rattle.act_rows.specs.Locks.{after_lock_behind, owner_at, with_queued}
use Rattle.act_rows.specs.Closing.{after_advance_starter}
use Rattle.act_rows.specs.Commands.{after_answer, after_call}
use Rattle.act_rows.specs.Starts.{after_start_all}
use Rattle.act_rows.specs.Steps.{entry_of, on_entry}
use Rattle.ignite_types.specs.declared.journal.Rec.TheVariants as note
use Rattle.ignite_types.specs.declared.journal.Rec.{Rec}
use Rattle.ignite_types.specs.declared.message.Message.TheVariants as msg
use Rattle.ignite_types.specs.declared.names.NodeId.{NodeId}
use Rattle.ignite_types.specs.declared.names.TopVer.{TopVer}
use Rattle.ignite_types.specs.declared.names.TxId.{TxId}
use Rattle.ignite_types.specs.declared.text.Key.{Key}
use Rattle.node_state.specs.declared.near.TxEntry.{TxEntry}
use Rattle.node_state.specs.declared.near.TxState.TheVariants as state
use Rattle.node_state.specs.declared.near.TxState.{TxState}
use Rattle.node_state.specs.Node.{NodeState}
use Rattle.std.proofs.Common.{◌≡◌, List, Bool, true, false, if◌then◌else◌, Option, Some, None, refl, ℕ}
use Rattle.transaction_laws.proofs.StarterAtoms.{no_more}
use Rattle.transaction_laws.proofs.StarterFacts.{starter_noting}
use Rattle.transaction_laws.specs.StarterFacts.{StarterInAct, HasShape}
use Rattle.act_rows.specs.Acts.{after_message}
use Rattle.act_rows.specs.Accesses.{after_backup_finished_at_starter, after_finished_at_starter}
use Rattle.act_rows.specs.Closing.{after_closing_rules, after_send_single, after_single_if_drained, owes_single}
use Rattle.act_rows.specs.Primary.{after_advance_shares, after_backup_finished_at_primary, own_txs}
use Rattle.act_rows.specs.Recovery.{backup_wait_cmp, finish_wait_cmp, on_round}
use Rattle.act_rows.specs.Searches.{after_expire, is_overdue}
use Rattle.act_rows.specs.Steps.{is_installed}
use Rattle.ignite_types.specs.Names.{share_cmp}
use Rattle.ignite_types.specs.declared.message.Message.{Message}
use Rattle.ignite_types.specs.declared.placement.PartMap.{PartMap}
use Rattle.node_state.specs.declared.topology.Round.{Round}
use Rattle.ordered_set.specs.Members.{without_member}
use Rattle.owner_laws.specs.LockFacts.{InHand}
use Rattle.owner_laws.specs.LockViews.{Around, view}
use Rattle.transaction_laws.proofs.StarterAnswers.{edges_ok_takes, expire_goes, finished_takes, get_ok_takes, lock_ok_takes, prepare_fail_takes, prepared_takes, same_core}
use Rattle.owner_laws.proofs.LockAnswers.{lock_answers}
use Rattle.owner_laws.proofs.LockKit.{Keeps, lock_kit, same_good, starter}
use Rattle.owner_laws.proofs.LockRows.{Good, lock_row_good}
use Rattle.transaction_laws.proofs.StarterRows.{RoomAt, answer_row_goes, call_row_goes, near_on_goes, starts_all_goes}
use Rattle.owner_laws.proofs.PrimaryRows.{Both, backup_finish_both, backup_prepare_both, backup_prepared_both, edges_both, finish_both, get_both, near_done_both, near_update_both, own_backup_finished_both, prepare_both, shares_on_both}

module _ (past : List Rec) (most : ℕ) (m : PartMap) (around : Around) where
  abbrev B : NodeState → Type 0
  B = Both past m around

  near_backup_both : (s : NodeState) (from : NodeId) (tx : TxId) (primary : NodeId) → B s →
      B (after_backup_finished_at_starter s from tx primary)
  near_backup_both s from tx primary b = go (entry_of s tx) refl
    where
      f : TxEntry → TxEntry
      f e = record e { backups = without_member share_cmp e.backups (record { holder = from; primary = primary }) }

      shaped : (st : TxState) (e : TxEntry) → HasShape st e → HasShape st (f e)
      shaped state.Idle e fact = fact
      shaped state.Active e fact = fact
      shaped state.Waiting e fact = fact
      shaped state.Searching e fact = fact
      shaped state.Preparing e fact = fact
      shaped state.Committing e fact = fact
      shaped state.RollingBack e fact = fact
      shaped state.Ended e fact = (fact.0, fact.1, fact.2, fact.3, rw fact.4 refl)

      go : (x : Option TxEntry) → entry_of s tx ≡ x → B (on_entry s tx f x)
      go None there = b
      go (Some e) there = record {
        near = same_core past s tx e (f e) b.near there refl refl refl refl refl
            (shaped e.state e (no_more past s b.near tx e there).shape);
        good = same_good past m around s tx e (f e) (starter past m around s tx e there b.near) there refl refl refl b.good;
      }

  round_both : (s : NodeState) (f : Round → Round) (r : Option Round) → B s → B (on_round s f r)
  round_both s f None b = b
  round_both s f (Some r) b =
      record {
        near = b.near;
        good = record {
          locks = b.good.locks;
          up = b.good.up;
          installed = b.good.installed;
          seen =
              b.good.seen;
          shares_up = b.good.shares_up;
        };
      }

  -- what a row of answers gives
  from_takes : (s s2 : NodeState) → StarterInAct past s2 × (Good m around s → Good m around s2) → B s → B s2
  from_takes s s2 goes b = record { near = goes.0; good = goes.1 b.good }

  abbrev Hand : NodeState → NodeId → Message → Type 0
  Hand s from x = InHand m (view around s) s.me (Some (record { from = from; message = x }))

  placed_near : (s : NodeState) (from : NodeId) (tx : TxId) (top : TopVer) (key : Key) (o : Option TxId) →
      StarterInAct past s → StarterInAct past (after_lock_behind s from tx top key o)
  placed_near s from tx top key None n = starter_noting past (with_queued s tx key) (note.Grant tx top key) refl n
  placed_near s from tx top key (Some o) n = starter_noting past (with_queued s tx key) (note.Queue tx key o) refl n

  message_both : (s : NodeState) (from : NodeId) (x : Message) → Hand s from x → B s → B (after_message s from x)
  message_both s from (msg.Lock tx top key) h b = record {
    near = placed_near s from tx top key (owner_at s key) b.near;
    good = lock_row_good m around s from tx top key h b.good;
  }
  message_both s from (msg.LockOk tx key found) h b = let goes = lock_ok_takes past most (Keeps past m around) _
      (lock_kit past m around most) (lock_answers past m around) s from tx key found b.near in
      record { near = goes.0; good = goes.1 b.good h }
  message_both s from (msg.Get tx key near) h b = get_both past m around s from tx key near b
  message_both s from (msg.GetOk tx key found) h b = let goes =
      get_ok_takes past most (Keeps past m around) _ (lock_kit past m around most) (lock_answers past m around) s from tx key
      found b.near in record { near = goes.0; good = goes.1 b.good h }
  message_both s from (msg.Prepare tx top x shares wanted writes) h b =
      prepare_both past m around s from tx top x shares wanted writes h.0 b
  message_both s from (msg.Prepared tx) h b = let goes = prepared_takes past most (Keeps past m around) _
      (lock_kit past m around most) (lock_answers past m around) s from tx b.near in
      record { near = goes.0; good = goes.1 b.good h }
  message_both s from (msg.PrepareFail tx why) h b = let goes = prepare_fail_takes past most (Keeps past m around) _
      (lock_kit past m around most) (lock_answers past m around) s from tx why b.near in
      record { near = goes.0; good = goes.1 b.good h }
  message_both s from (msg.Finish tx commit) h b = finish_both past m around s from tx commit h.0.over b
  message_both s from (msg.Finished tx) h b =
      let goes = finished_takes past most (Keeps past m around) _ (lock_kit past m around most) (lock_answers past m around) s
      from tx b.near in
      round_both (after_finished_at_starter s from tx)
      (λ (r : Round). record r { finishes = without_member finish_wait_cmp r.finishes (record { tx = tx; node = from }) })
      (after_finished_at_starter s from tx).round (record { near = goes.0; good = goes.1 b.good h })
  message_both s from (msg.Edges tx round asked) h b = edges_both past m around s from tx round asked b
  message_both s from (msg.EdgesOk tx round act edges) h b = let goes = edges_ok_takes past most (Keeps past m around) _
      (lock_kit past m around most) (lock_answers past m around) s from tx round act edges b.near in
      record { near = goes.0; good = goes.1 b.good h }
  message_both s from (msg.BackupPrepare tx top shares primary writes) h b =
      backup_prepare_both past m around s from tx top shares primary writes b
  message_both s from (msg.BackupPrepared tx) h b = backup_prepared_both past m around s from tx b
  message_both s from (msg.BackupFinish tx primary commit) h b = backup_finish_both past m around s from tx primary commit b
  message_both s from (msg.BackupFinished tx primary) h b =
      let own = after_backup_finished_at_primary s from tx primary in
      let near = after_backup_finished_at_starter own from tx primary in
      round_both near (λ (r : Round).
      record r {
        backups = without_member backup_wait_cmp r.backups (record { tx = tx; primary = primary; holder = from });
      }) near.round
      (near_backup_both own from tx primary (own_backup_finished_both past m around s from tx primary b))
  message_both s from (msg.NearUpdate tx key new ver) h b = near_update_both past m around s from tx key new ver b
  message_both s from (msg.NearDone tx key) h b = near_done_both past m around s from tx key b
  message_both s from (msg.Single top x complete) h b = absurd h.0
  message_both s from (msg.Full x) h b = absurd h.0
  message_both s from (msg.Installed top) h b = absurd h.0
  message_both s from (msg.Opens top) h b = absurd h.0
  message_both s from (msg.Demand top part after) h b = absurd h.0
  message_both s from (msg.Supply top part entries last) h b = absurd h.0
  message_both s from (msg.Complete top) h b = absurd h.0
  message_both s from (msg.Orphans round list) h b = absurd h.0

  -- what an act ends with

  single_both : (s : NodeState) → B s → B (after_single_if_drained s)
  single_both s b = go (owes_single s) refl
    where
      installed_here : is_installed s s.seen ≡ true
      installed_here = rw b.good.installed b.good.seen

      never : owes_single s ≡ false
      never = rw installed_here refl

      go : (o : Bool) → owes_single s ≡ o → B (if o then after_send_single s else s)
      go true is = absurd (cc)
      go false is = b

  pub closed_both : (s : NodeState) → B s → B (after_closing_rules s)
  closed_both s b =
      let kit = lock_kit past m around most in
      let R = Keeps past m around in
      let shared = after_advance_shares s (own_txs s) in
      let b1 = shares_on_both past m around s (own_txs s) b in
      let first = after_advance_starter shared in
      let g1 = near_on_goes past most R kit shared b1.near in
      let started = after_start_all first in
      let g2 = starts_all_goes past most R kit first g1.0 in
      let g3 = near_on_goes past most R kit started g2.0 in
      single_both (after_advance_starter started) (record { near = g3.0; good = g3.1 (g2.1 (g1.1 b1.good)) })

  pub message_act_both : (s : NodeState) (from : NodeId) (x : Message) → Hand s from x → B s →
      B (after_closing_rules (after_message s from x))
  message_act_both s from x h b = closed_both (after_message s from x) (message_both s from x h b)

  pub call_act_both : (s : NodeState) (session : ℕ) →
      RoomAt past most (Keeps past m around) (lock_kit past m around most) s session → B s →
      B (after_closing_rules (after_call s session))
  call_act_both s session room b = let goes = call_row_goes past most (Keeps past m around) (lock_kit past m around most) s
      session room b.near in closed_both (after_call s session) (record { near = goes.0; good = goes.1 b.good })

  pub expire_act_both : (s : NodeState) (tx : TxId) → is_overdue s tx ≡ true → B s → B (after_closing_rules (after_expire s tx))
  expire_act_both s tx due b = let goes = expire_goes past most (Keeps past m around) _ (lock_kit past m around most)
      (lock_answers past m around) s tx due b.near in
      closed_both (after_expire s tx) (record { near = goes.0; good = goes.1 b.good })

  pub answer_act_both : (s : NodeState) (session : ℕ) → B s → B (after_answer s session)
  answer_act_both s session b = let goes = answer_row_goes past most (Keeps past m around) (lock_kit past m around most) s
      session b.near in record { near = goes.0; good = goes.1 b.good }
