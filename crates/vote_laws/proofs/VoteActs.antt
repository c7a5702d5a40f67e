-- Each act of a node keeps what is true of votes, and what the records tell of the node's transactions, as long as no message
-- of topology is on its way.
use Rattle.std.proofs.Common.{◌≡◌, ◌&&◌, List, [], ◌∷◌, ◌++◌, Bool, true, false, if◌then◌else◌, Option, Some, None, refl, sym, subst, ℕ}
use Rattle.std.specs.List.{list_all}
use Rattle.act_rows.specs.Accesses.{after_backup_finished_at_starter, after_finished_at_starter}
use Rattle.act_rows.specs.Acts.{after_message}
use Rattle.act_rows.specs.Closing.{after_advance_starter, after_closing_rules, after_send_single, after_single_if_drained, owes_single}
use Rattle.act_rows.specs.Commands.{after_answer, after_call}
use Rattle.act_rows.specs.Primary.{after_advance_shares, after_backup_finished_at_primary, own_txs}
use Rattle.act_rows.specs.Recovery.{backup_wait_cmp, finish_wait_cmp, on_round}
use Rattle.act_rows.specs.Searches.{after_expire, is_overdue}
use Rattle.act_rows.specs.Starts.{after_start_all}
use Rattle.act_rows.specs.Steps.{entry_of, is_installed, on_entry}
use Rattle.frame_laws.proofs.Extending.{append_twice}
use Rattle.ignite_types.specs.Names.{share_cmp}
use Rattle.ignite_types.specs.declared.journal.Rec.{Rec}
use Rattle.ignite_types.specs.declared.message.Message.TheVariants as msg
use Rattle.ignite_types.specs.declared.message.Message.{Message}
use Rattle.ignite_types.specs.declared.names.NodeId.{NodeId}
use Rattle.ignite_types.specs.declared.names.TxId.{TxId}
use Rattle.ignite_types.specs.declared.placement.PartMap.{PartMap}
use Rattle.node_state.specs.Node.{NodeState}
use Rattle.node_state.specs.declared.near.TxEntry.{TxEntry}
use Rattle.node_state.specs.declared.near.TxState.TheVariants as state
use Rattle.node_state.specs.declared.near.TxState.{TxState}
use Rattle.node_state.specs.declared.topology.Round.{Round}
use Rattle.ordered_set.specs.Members.{without_member}
use Rattle.transaction_laws.proofs.OtherRows.{advance_shares_leaves, backup_finish_leaves, backup_finished_at_primary_leaves, backup_prepare_leaves, backup_prepared_leaves, edges_leaves, finish_leaves, get_leaves, lock_leaves, near_done_leaves, prepare_leaves}
use Rattle.transaction_laws.proofs.StarterActs.{starter_silent}
use Rattle.transaction_laws.proofs.StarterAnswers.{edges_ok_takes, expire_goes, finished_takes, get_ok_takes, lock_ok_takes, prepare_fail_takes, prepared_takes, same_core}
use Rattle.transaction_laws.proofs.StarterRows.{RoomAt, answer_row_goes, call_row_goes, near_on_goes, starts_all_goes}
use Rattle.transaction_laws.proofs.StarterAtoms.{no_more}
use Rattle.transaction_laws.proofs.StarterFacts.{silent_aside}
use Rattle.transaction_laws.specs.LeavesStarters.{LeavesStarters, StarterFace}
use Rattle.transaction_laws.specs.StarterFacts.{HasShape, StarterFits, StarterInAct, is_aside, is_silent}
use Rattle.vote_laws.proofs.VoteAnswers.{vote_answers}
use Rattle.vote_laws.proofs.VoteKit.{Keeps, same_good, vote_kit}
use Rattle.vote_laws.proofs.VoteRows.{V, VoteGood}
use Rattle.vote_laws.proofs.VoterRows.{backup_finish_good, backup_prepare_good, backup_prepared_good, edges_good, finish_good, get_good, lock_good, near_done_good, near_update_good, own_backup_finished_good, prepare_good, shares_on_good}
use Rattle.vote_laws.specs.VoteFacts.{InHand}
use Rattle.vote_laws.specs.VoteViews.{VoteAround}

all_aside : (rs : List Rec) → list_all is_silent rs ≡ true → list_all is_aside rs ≡ true
all_aside [] is = refl
all_aside (r ∷ rs) is = by (is_silent r) refl (all_aside rs) is
  where
    by : (c : Bool) → is_silent r ≡ c → (list_all is_silent rs ≡ true → list_all is_aside rs ≡ true) →
        (c && list_all is_silent rs) ≡ true → list_all is_aside (r ∷ rs) ≡ true
    by true first more rest = rw (silent_aside r first) (more rest)
    by false first more rest = absurd (cc (rest))

module _ (most : ℕ) (m : PartMap) (around : VoteAround) where
  -- what is known between two steps
  pub record VoteBoth (s : NodeState) : Type 0 where
    pub near : StarterInAct around.mine s
    pub good : VoteGood m around s

  abbrev B : NodeState → Type 0
  B = VoteBoth

  leaves_near : (a b : NodeState) → LeavesStarters a b → StarterInAct around.mine a → StarterInAct around.mine b
  leaves_near a b l n = subst (λ (f : StarterFace). StarterFits f.me (around.mine ++ f.noted) f.txs f.session_states)
      (sym l.face_is)
      (subst (λ (rs : List Rec). StarterFits a.me rs a.txs a.session_states) (append_twice around.mine a.noted l.more)
      (starter_silent a.me (around.mine ++ a.noted) l.more a (all_aside l.more l.silent) n))

  near_backup_both : (s : NodeState) (from : NodeId) (tx : TxId) (primary : NodeId) → B s →
      B (after_backup_finished_at_starter s from tx primary)
  near_backup_both s from tx primary b = go (entry_of s tx) refl
    where
      f : TxEntry → TxEntry
      f e = record e { backups = without_member share_cmp e.backups (record { holder = from; primary = primary }) }

      shaped : (st : TxState) (e : TxEntry) → HasShape st e → HasShape st (f e)
      shaped state.Idle e fact = fact
      shaped state.Active e fact = fact
      shaped state.Waiting e fact = fact
      shaped state.Searching e fact = fact
      shaped state.Preparing e fact = fact
      shaped state.Committing e fact = fact
      shaped state.RollingBack e fact = fact
      shaped state.Ended e fact = (fact.0, fact.1, fact.2, fact.3, rw fact.4 refl)

      go : (x : Option TxEntry) → entry_of s tx ≡ x → B (on_entry s tx f x)
      go None there = b
      go (Some e) there =
          let was = no_more around.mine s b.near tx e there in
          record {
            near = same_core around.mine s tx e (f e) b.near there refl refl refl refl refl (shaped e.state e was.shape);
            good = same_good m around s tx e (f e) was.starter there refl refl refl refl refl b.good;
          }

  round_both : (s : NodeState) (f : Round → Round) (r : Option Round) → B s → B (on_round s f r)
  round_both s f None b = b
  round_both s f (Some r) b = record { near = b.near; good = record { votes = b.good.votes; stands = b.good.stands } }

  abbrev Hand : NodeState → NodeId → Message → Type 0
  Hand s from x = InHand (V m around s) s.me (record { from = from; message = x })

  message_both : (s : NodeState) (from : NodeId) (x : Message) → Hand s from x → B s → B (after_message s from x)
  message_both s from (msg.Lock tx top key) h b = record {
    near = leaves_near s _ (lock_leaves s from tx top key) b.near;
    good = lock_good m around s from tx top key b.good;
  }
  message_both s from (msg.LockOk tx key found) h b = let goes = lock_ok_takes around.mine most (Keeps m around) _
      (vote_kit m around most) (vote_answers m around) s from tx key found b.near in
      record { near = goes.0; good = goes.1 b.good h }
  message_both s from (msg.Get tx key near) h b = record {
    near = leaves_near s _ (get_leaves s from tx key near) b.near;
    good = get_good m around s from tx key near b.good;
  }
  message_both s from (msg.GetOk tx key found) h b = let goes = get_ok_takes around.mine most (Keeps m around) _
      (vote_kit m around most) (vote_answers m around) s from tx key found b.near in
      record { near = goes.0; good = goes.1 b.good h }
  message_both s from (msg.Prepare tx top x shares wanted writes) h b =
      record {
        near = leaves_near s _ (prepare_leaves s from tx top x shares wanted writes) b.near;
        good =
            prepare_good m around s from tx top x shares wanted writes h b.good;
      }
  message_both s from (msg.Prepared tx) h b = let goes = prepared_takes around.mine most (Keeps m around) _
      (vote_kit m around most) (vote_answers m around) s from tx b.near in record { near = goes.0; good = goes.1 b.good h }
  message_both s from (msg.PrepareFail tx why) h b = let goes = prepare_fail_takes around.mine most (Keeps m around) _
      (vote_kit m around most) (vote_answers m around) s from tx why b.near in record { near = goes.0; good = goes.1 b.good h }
  message_both s from (msg.Finish tx commit) h b = record {
    near = leaves_near s _ (finish_leaves s from tx commit) b.near;
    good = finish_good m around s from tx commit h b.good;
  }
  message_both s from (msg.Finished tx) h b =
      let goes = finished_takes around.mine most (Keeps m around) _ (vote_kit m around most) (vote_answers m around) s from tx
      b.near in
      round_both (after_finished_at_starter s from tx)
      (λ (r : Round). record r { finishes = without_member finish_wait_cmp r.finishes (record { tx = tx; node = from }) })
      (after_finished_at_starter s from tx).round (record { near = goes.0; good = goes.1 b.good h })
  message_both s from (msg.Edges tx round asked) h b =
      record {
        near = leaves_near s _ (edges_leaves s from tx round asked) b.near;
        good =
            edges_good m around s from tx round asked b.good;
      }
  message_both s from (msg.EdgesOk tx round act edges) h b = let goes = edges_ok_takes around.mine most (Keeps m around) _
      (vote_kit m around most) (vote_answers m around) s from tx round act edges b.near in
      record { near = goes.0; good = goes.1 b.good h }
  message_both s from (msg.BackupPrepare tx top shares primary writes) h b =
      record {
        near = leaves_near s _ (backup_prepare_leaves s from tx top shares primary writes) b.near;
        good =
            backup_prepare_good m around s from tx top shares primary writes h.0 b.good;
      }
  message_both s from (msg.BackupPrepared tx) h b = record {
    near = leaves_near s _ (backup_prepared_leaves s from tx) b.near;
    good = backup_prepared_good m around s from tx h.0 b.good;
  }
  message_both s from (msg.BackupFinish tx primary commit) h b =
      record {
        near = leaves_near s _ (backup_finish_leaves s from tx primary commit) b.near;
        good =
            backup_finish_good m around s from tx primary commit h.0 b.good;
      }
  message_both s from (msg.BackupFinished tx primary) h b =
      let own = after_backup_finished_at_primary s from tx primary in
      let near = after_backup_finished_at_starter own from tx primary in
      round_both near (λ (r : Round).
      record r {
        backups = without_member backup_wait_cmp r.backups (record { tx = tx; primary = primary; holder = from });
      }) near.round
      (near_backup_both own from tx primary
      (record {
        near = leaves_near s own (backup_finished_at_primary_leaves s from tx primary) b.near;
        good =
            own_backup_finished_good m around s from tx primary b.good;
      }))
  message_both s from (msg.NearUpdate tx key new ver) h b =
      record { near = b.near; good = near_update_good m around s from tx key new ver b.good }
  message_both s from (msg.NearDone tx key) h b = record {
    near = leaves_near s _ (near_done_leaves s from tx key) b.near;
    good = near_done_good m around s from tx key b.good;
  }
  message_both s from (msg.Single top x complete) h b = absurd h.0
  message_both s from (msg.Full x) h b = absurd h.0
  message_both s from (msg.Installed top) h b = absurd h.0
  message_both s from (msg.Opens top) h b = absurd h.0
  message_both s from (msg.Demand top part after) h b = absurd h.0
  message_both s from (msg.Supply top part entries last) h b = absurd h.0
  message_both s from (msg.Complete top) h b = absurd h.0
  message_both s from (msg.Orphans round list) h b = absurd h.0

  -- what an act ends with

  single_both : (s : NodeState) → B s → B (after_single_if_drained s)
  single_both s b = go (owes_single s) refl
    where
      installed_here : is_installed s s.seen ≡ true
      installed_here = rw b.good.stands.installed_is b.good.stands.seen_is

      never : owes_single s ≡ false
      never = rw installed_here refl

      go : (o : Bool) → owes_single s ≡ o → B (if o then after_send_single s else s)
      go true is = absurd (cc)
      go false is = b

  pub closed_both : (s : NodeState) → B s → B (after_closing_rules s)
  closed_both s b =
      let kit = vote_kit m around most in
      let R = Keeps m around in
      let shared = after_advance_shares s (own_txs s) in
      let n1 = leaves_near s shared (advance_shares_leaves s (own_txs s)) b.near in
      let b1 = shares_on_good m around s (own_txs s) b.good in
      let first = after_advance_starter shared in
      let g1 = near_on_goes around.mine most R kit shared n1 in
      let started = after_start_all first in
      let g2 = starts_all_goes around.mine most R kit first g1.0 in
      let g3 = near_on_goes around.mine most R kit started g2.0 in
      single_both (after_advance_starter started) (record { near = g3.0; good = g3.1 (g2.1 (g1.1 b1)) })

  pub message_act_both : (s : NodeState) (from : NodeId) (x : Message) → Hand s from x → B s →
      B (after_closing_rules (after_message s from x))
  message_act_both s from x h b = closed_both (after_message s from x) (message_both s from x h b)

  pub call_act_both : (s : NodeState) (session : ℕ) →
      RoomAt around.mine most (Keeps m around) (vote_kit m around most) s session → B s →
      B (after_closing_rules (after_call s session))
  call_act_both s session room b = let goes = call_row_goes around.mine most (Keeps m around) (vote_kit m around most) s
      session room b.near in closed_both (after_call s session) (record { near = goes.0; good = goes.1 b.good })

  pub expire_act_both : (s : NodeState) (tx : TxId) → is_overdue s tx ≡ true → B s → B (after_closing_rules (after_expire s tx))
  expire_act_both s tx due b = let goes = expire_goes around.mine most (Keeps m around) _ (vote_kit m around most)
      (vote_answers m around) s tx due b.near in
      closed_both (after_expire s tx) (record { near = goes.0; good = goes.1 b.good })

  pub answer_act_both : (s : NodeState) (session : ℕ) → B s → B (after_answer s session)
  answer_act_both s session b = let goes = answer_row_goes around.mine most (Keeps m around) (vote_kit m around most) s
      session b.near in record { near = goes.0; good = goes.1 b.good }
