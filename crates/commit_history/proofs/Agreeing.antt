-- How a transaction's own walk, and what is kept for it in the one walk for all, go on together.
use Rattle.std.proofs.Common.{◌≡◌, ◌<◌, ◌≤◌, ◌-◌, ◌^◌, ◌==◌, List, Option, Some, None, Bool, true, false, if◌then◌else◌, unwrap_or, ℕ, refl, ap, sym, subst, ◌∙◌, arith}
use Rattle.std.proofs.lemmas.Bool.Decides.{nat_tests}
use Rattle.act_rows.specs.Accesses.{access_key}
use Rattle.part_model.specs.Copies.{Found}
use Rattle.part_model.specs.Orders.{next_count}
use Rattle.commit_history.specs.Following.{Agrees, assembled}
use Rattle.commit_history.specs.Lines.{line_after, line_after_call, walk_at_line}
use Rattle.commit_history.specs.declared.line.Line.{Line}
use Rattle.commit_history.proofs.Frames.{answer_apart, answer_beside, answer_starts}
use Rattle.ignite_types.specs.Names.{key_cmp}
use Rattle.ignite_types.specs.declared.answer.Answer.{Answer}
use Rattle.ignite_types.specs.declared.names.TopVer.{TopVer}
use Rattle.ignite_types.specs.declared.names.TxId.{TxId}
use Rattle.ignite_types.specs.declared.scenario.Command.{Command}
use Rattle.ignite_types.specs.declared.text.Key.{Key}
use Rattle.ordered_table.specs.Entries.{at}
use Rattle.tx_model.specs.History.{fresh_walk, is_bare, near_read_at, walk_after_answer, walk_after_call, walk_with_find, with_near_read, with_near_read_if_started}
use Rattle.tx_model.specs.declared.walk.Walk.{Walk}

-- what a near cache that was told this knows of a command's key
abbrev pub near_read_in : List (Key × Found) → Option Key → Found
near_read_in near None = None
near_read_in near (Some key) = unwrap_or (at key_cmp near key) None

same_near_read : (w : Walk) (key : Option Key) → near_read_at w key ≡ near_read_in w.near key
same_near_read w None = refl
same_near_read w (Some key) = refl

module _ (near : List (Key × Found)) (overs : List TxId) where
  -- The session calls a command.

  -- the transaction's part after a call, where the transaction has started and is the one at hand
  abbrev pub after_near_read : Option TopVer → Bool → Command → Walk → Walk
  after_near_read None mine c v = v
  after_near_read (Some top) false c v = v
  after_near_read (Some top) true c v = record v { near_read = near_read_in near (access_key c) }

  call_line : (l : Line) (c : Command) (v : Walk) (g : Found) → walk_after_call (assembled l v near overs g) c ≡ assembled
      (line_after_call l c) v near overs g
  call_line l c v g =
      elim (is_bare (walk_at_line l fresh_walk) c) as (λ b.
      (if b then record (assembled l v near overs g) { called = Some c; started = next_count l.started } else
      record (assembled l v near overs g) { called = Some c })
      ≡ assembled (line_after l (if b then record (walk_at_line l fresh_walk) {
        called = Some c;
        started =
            next_count l.started;
      } else record (walk_at_line l fresh_walk) { called = Some c })) v near overs g) [
        | true ↦ refl
        | false ↦ refl
      ]

  pub started_after : (l : Line) (c : Command) → l.started ≤ 2 ^ 64 - 1 → ((line_after_call l c).started ≤ 2 ^ 64 - 1)
      × (l.started ≤ (line_after_call l c).started)
  started_after l c fits =
      elim (is_bare (walk_at_line l fresh_walk) c) as (λ b. let s =
      (if b then record (walk_at_line l fresh_walk) { called = Some c; started = next_count l.started } else
      record (walk_at_line l fresh_walk) { called = Some c }).started in (s ≤ 2 ^ 64 - 1) × (l.started ≤ s)) [
        | true ↦ (omega (arith, fits), omega (arith, fits))
        | false ↦ (fits, omega arith)
      ]

  called_after : (l : Line) (c : Command) → (line_after_call l c).called ≡ Some c
  called_after l c =
      elim (is_bare (walk_at_line l fresh_walk) c) as (λ b.
      (if b then record (walk_at_line l fresh_walk) { called = Some c; started = next_count l.started } else
      record (walk_at_line l fresh_walk) { called = Some c }).called ≡ Some c) [
        | true ↦ refl
        | false ↦ refl
      ]

  near_reads_called : (l : Line) (c : Command) (v : Walk) (g : Found) (k : Option Command) → k ≡ Some c →
      with_near_read (assembled l v near overs g) k ≡ assembled l v near overs (near_read_in near (access_key c))
  near_reads_called l c v g k is =
      rw is (ap (λ (f : Found). assembled l v near overs f) (same_near_read (assembled l v near overs g) (access_key c)))

  call_near_reads : (l : Line) (c : Command) (v : Walk) (g : Found) →
      with_near_read (assembled (line_after_call l c) v near overs g) (line_after_call l c).called ≡ assembled
      (line_after_call l c) v near overs (near_read_in near (access_key c))
  call_near_reads l c v g =
      near_reads_called (line_after_call l c) c v g (line_after_call l c).called (called_after l c)

  -- what a near_read is where the transaction comes to hand: none was kept before
  at_hand : (number : ℕ) (l : Line) (v : Walk) (g : Found) → (l.started ≡ number → g ≡ v.near_read) →
      (l.started < number → v.near_read ≡ None) → g ≡ None → l.started ≤ number → g ≡ v.near_read
  at_hand number l v g now later none up =
      elim (l.started == number) as (λ b. (l.started == number) ≡ b → g ≡ v.near_read) [
        | true ↦ λ t. now (grind (arith, nat_tests))
        | false ↦ λ f. none ∙ sym (later (grind (arith, nat_tests)))
      ] refl

  call_at : (number : ℕ) (l : Line) (v : Walk) (g : Found) (c : Command) →
      Agrees number l v near overs (assembled l v near overs g)
      → Agrees number (line_after_call l c) (after_near_read v.top ((line_after_call l c).started == number) c v) near overs
      (with_near_read_if_started (walk_after_call (assembled l v near overs g) c) v.top)
  call_at number l v g c agrees =
      let after = line_after_call l c in
      let starts = started_after l c agrees.fits in
      rw (call_line l c v g)
      (elim v.top as (λ t. v.top ≡ t → Agrees number after (after_near_read t (after.started == number) c v) near overs
      (with_near_read_if_started (assembled after v near overs g) t)) [
        | None ↦ λ none. record {
          same = refl;
          now = λ is. at_hand number l v g agrees.now agrees.later (agrees.unseen none) (omega (arith, starts.1, is));
          later = λ less. agrees.later (omega (arith, starts.1, less));
          unseen = agrees.unseen;
          fits = starts.0;
        }
        | Some top ↦ λ some.
            rw (call_near_reads l c v g)
            (elim (after.started == number) as (λ b. (after.started == number) ≡ b →
            Agrees number after (after_near_read (Some top) b c v) near overs
            (assembled after v near overs (near_read_in near (access_key c)))) [
              | true ↦ λ is. record {
                same = refl;
                now = λ same. refl;
                later = λ less. absurd (grind (arith, nat_tests));
                unseen = λ none. absurd (cc);
                fits = starts.0;
              }
              | false ↦ λ apart. record {
                same = refl;
                now = λ same. absurd (grind (arith, nat_tests));
                later = λ less. agrees.later (omega (arith, starts.1, less));
                unseen = λ none. absurd (cc);
                fits = starts.0;
              }
            ] refl)
      ] refl)

  pub call_agrees : (number : ℕ) (l : Line) (v w : Walk) (c : Command) → Agrees number l v near overs w
      → Agrees number (line_after_call l c) (after_near_read v.top ((line_after_call l c).started == number) c v) near overs
      (with_near_read_if_started (walk_after_call w c) w.top)
  call_agrees number l v w c agrees =
      subst (λ (x : Walk). Agrees number (line_after_call l c)
      (after_near_read v.top ((line_after_call l c).started == number) c v) near overs
      (with_near_read_if_started (walk_after_call x c) x.top)) (sym agrees.same)
      (call_at number l v w.near_read c (subst (λ (x : Walk). Agrees number l v near overs x) agrees.same agrees))

  -- The session's call is answered.

  answer_at : (tx : TxId) (l : Line) (v : Walk) (g : Found) (c : Command) (a : Answer) →
      Agrees tx.number l v near overs (assembled l v near overs g) → l.started ≡ tx.number
      → let v2 = walk_after_answer tx (walk_at_line l v) (Some c) a in Agrees tx.number (line_after l v2) v2 near overs
      (walk_after_answer tx (assembled l v near overs g) (Some c) a)
  answer_at tx l v g c a agrees is =
      let v2 = walk_after_answer tx (walk_at_line l v) (Some c) a in
      rw (agrees.now is)
      (rw (answer_beside near overs tx (walk_at_line l v) c a) (record {
        same = refl;
        now = λ same. refl;
        later = λ less. refl;
        unseen = λ none. refl;
        fits = (answer_starts tx l (walk_at_line l v) c a agrees.fits).0;
      }))

  answer_elsewhere : (tx cur : TxId) (l : Line) (v x : Walk) (g : Found) (c : Command) (a : Answer) →
      Agrees tx.number l v near overs (assembled l v near overs g) → (l.started == tx.number) ≡ false
      → Agrees tx.number (line_after l (walk_after_answer cur (walk_at_line l x) (Some c) a)) v near overs
      (walk_after_answer tx (assembled l v near overs g) (Some c) a)
  answer_elsewhere tx cur l v x g c a agrees apart =
      let starts = answer_starts cur l (walk_at_line l x) c a agrees.fits in
      rw (answer_apart tx cur l v x near overs g c a apart) (record {
        same = refl;
        now = λ is. sym (agrees.later (grind (arith, nat_tests, apart, is, starts.1)));
        later = λ less. agrees.later (omega (arith, starts.1, less));
        unseen = λ none. refl;
        fits = starts.0;
      })

  pub answer_agrees : (tx : TxId) (l : Line) (v w : Walk) (c : Command) (a : Answer) → Agrees tx.number l v near overs w →
      l.started ≡ tx.number
      → let v2 = walk_after_answer tx (walk_at_line l v) (Some c) a in Agrees tx.number (line_after l v2) v2 near overs
      (walk_after_answer tx w (Some c) a)
  answer_agrees tx l v w c a agrees is =
      let v2 = walk_after_answer tx (walk_at_line l v) (Some c) a in
      subst (λ (x : Walk). Agrees tx.number (line_after l v2) v2 near overs (walk_after_answer tx x (Some c) a))
      (sym agrees.same)
      (answer_at tx l v w.near_read c a (subst (λ (x : Walk). Agrees tx.number l v near overs x) agrees.same agrees) is)

  pub answer_agrees_elsewhere : (tx cur : TxId) (l : Line) (v x w : Walk) (c : Command) (a : Answer) →
      Agrees tx.number l v near overs w → (l.started == tx.number) ≡ false
      → Agrees tx.number (line_after l (walk_after_answer cur (walk_at_line l x) (Some c) a)) v near overs
      (walk_after_answer tx w (Some c) a)
  answer_agrees_elsewhere tx cur l v x w c a agrees apart =
      subst (λ (y : Walk). Agrees tx.number (line_after l (walk_after_answer cur (walk_at_line l x) (Some c) a)) v near overs
      (walk_after_answer tx y (Some c) a)) (sym agrees.same)
      (answer_elsewhere tx cur l v x w.near_read c a
      (subst (λ (y : Walk). Agrees tx.number l v near overs y) agrees.same agrees) apart)

  -- The transaction starts.

  abbrev pub after_start : Option Command → Bool → Walk → Walk
  after_start None mine v = v
  after_start (Some c) false v = v
  after_start (Some c) true v = record v { near_read = near_read_in near (access_key c) }

  start_at : (number : ℕ) (l : Line) (v : Walk) (g : Found) (top : TopVer) →
      Agrees number l v near overs (assembled l v near overs g)
      → Agrees number l (after_start l.called (l.started == number) (record v { top = Some top })) near overs
      (with_near_read (record (assembled l v near overs g) { top = Some top }) l.called)
  start_at number l v g top agrees =
      let v1 : Walk = record v { top = Some top } in
      let w1 : Walk = assembled l v1 near overs g in
      elim l.called as (λ k. Agrees number l (after_start k (l.started == number) v1) near overs (with_near_read w1 k)) [
        | None ↦ record {
          same = refl;
          now = agrees.now;
          later = agrees.later;
          unseen = λ none. absurd (cc);
          fits = agrees.fits;
        }
        | Some c ↦
            rw (same_near_read w1 (access_key c))
            (elim (l.started == number) as (λ b. (l.started == number) ≡ b →
            Agrees number l (after_start (Some c) b v1) near overs
            (assembled l v1 near overs (near_read_in near (access_key c)))) [
              | true ↦ λ is. record {
                same = refl;
                now = λ same. refl;
                later = λ less. absurd (grind (arith, nat_tests));
                unseen = λ none. absurd (cc);
                fits = agrees.fits;
              }
              | false ↦ λ apart. record {
                same = refl;
                now = λ same. absurd (grind (arith, nat_tests));
                later = agrees.later;
                unseen = λ none. absurd (cc);
                fits = agrees.fits;
              }
            ] refl)
      ]

  pub start_agrees : (number : ℕ) (l : Line) (v w : Walk) (top : TopVer) → Agrees number l v near overs w
      → Agrees number l (after_start l.called (l.started == number) (record v { top = Some top })) near overs
      (with_near_read (record w { top = Some top }) w.called)
  start_agrees number l v w top agrees =
      subst (λ (x : Walk). Agrees number l (after_start l.called (l.started == number) (record v { top = Some top })) near
      overs (with_near_read (record x { top = Some top }) x.called)) (sym agrees.same)
      (start_at number l v w.near_read top (subst (λ (x : Walk). Agrees number l v near overs x) agrees.same agrees))

  -- Something is found for the transaction.

  find_at : (number : ℕ) (l : Line) (v : Walk) (g : Found) (key : Key) (f : Found) →
      Agrees number l v near overs (assembled l v near overs g)
      → Agrees number l (walk_with_find v key (at key_cmp v.finds key) f) near overs
      (walk_with_find (assembled l v near overs g) key (at key_cmp v.finds key) f)
  find_at number l v g key f agrees =
      elim (at key_cmp v.finds key) as (λ r. Agrees number l (walk_with_find v key r f) near overs
      (walk_with_find (assembled l v near overs g) key r f)) [
        | None ↦ record { same = refl; now = agrees.now; later = agrees.later; unseen = agrees.unseen; fits = agrees.fits }
        | Some earlier ↦ agrees
      ]

  pub find_agrees : (number : ℕ) (l : Line) (v w : Walk) (key : Key) (f : Found) → Agrees number l v near overs w
      → Agrees number l (walk_with_find v key (at key_cmp v.finds key) f) near overs
      (walk_with_find w key (at key_cmp w.finds key) f)
  find_agrees number l v w key f agrees =
      subst (λ (x : Walk). Agrees number l (walk_with_find v key (at key_cmp v.finds key) f) near overs
      (walk_with_find x key (at key_cmp x.finds key) f)) (sym agrees.same)
      (find_at number l v w.near_read key f (subst (λ (x : Walk). Agrees number l v near overs x) agrees.same agrees))

  -- What the near cache is told, and which transactions are over.

  pub beside_agrees : (number : ℕ) (l : Line) (v w : Walk) (near2 : List (Key × Found)) (overs2 : List TxId) →
      Agrees number l v near overs w
      → Agrees number l v near2 overs2 (record w { near = near2; overs = overs2 })
  beside_agrees number l v w near2 overs2 agrees = record {
    same = ap (λ (x : Walk). record x { near = near2; overs = overs2 }) agrees.same;
    now = agrees.now;
    later = agrees.later;
    unseen = agrees.unseen;
    fits = agrees.fits;
  }

  pub commit_agrees : (number : ℕ) (l : Line) (v w : Walk) → Agrees number l v near overs w
      → Agrees number l (record v { committed = true }) near overs (record w { committed = true })
  commit_agrees number l v w agrees = record {
    same = ap (λ (x : Walk). record x { committed = true }) agrees.same;
    now = agrees.now;
    later = agrees.later;
    unseen = agrees.unseen;
    fits = agrees.fits;
  }
