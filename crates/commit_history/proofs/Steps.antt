-- Each record takes a transaction's own walk and the one walk for all on together.
use Rattle.std.proofs.Common.{◌≡◌, ◌≢◌, ◌==◌, ◌&&◌, ◌||◌, [], Option, Some, None, Bool, true, false, if◌then◌else◌, not, is_some, ℕ, refl, ap, sym, subst, ◌∙◌, arith}
use Rattle.std.proofs.lemmas.Bool.Decides.{nat_tests}
use Rattle.act_rows.specs.Accesses.{access_key}
use Rattle.part_model.specs.Copies.{Found}
use Rattle.part_model.specs.Orders.{is_node}
use Rattle.part_model.specs.Tables.{keys_in}
use Rattle.commit_history.specs.Following.{Agrees, Follows, assembled}
use Rattle.commit_history.specs.Lines.{line_after, line_after_call, tx_of_line, walk_at_line}
use Rattle.commit_history.specs.Steps as steps
use Rattle.commit_history.specs.Steps.{near_told_at, near_told_of, session_line_of, walk_of, walks_after_record, with_line, with_walk}
use Rattle.commit_history.specs.declared.line.Line.{Line}
use Rattle.commit_history.specs.declared.walks.Walks.{Walks}
use Rattle.commit_history.proofs.Agreeing.{after_near_read, after_start, answer_agrees, answer_agrees_elsewhere, beside_agrees, call_agrees, commit_agrees, find_agrees, near_read_in, start_agrees}
use Rattle.commit_history.proofs.Orders.{has_keys, keys_put}
use Rattle.commit_history.proofs.Tables.{line_put, line_put_other, near_put, near_put_other, walk_put, walk_put_other, with_near}
use Rattle.ignite_types.proofs.NameLaws.{same_node_true, same_tx_itself, same_tx_true}
use Rattle.ignite_types.specs.Names.{key_cmp, same_node, same_tx, tx_cmp}
use Rattle.ignite_types.specs.declared.answer.Answer.{Answer}
use Rattle.ignite_types.specs.declared.journal.Rec.{Rec}
use Rattle.ignite_types.specs.declared.message.Message.{Message}
use Rattle.ignite_types.specs.declared.names.NodeId.{NodeId}
use Rattle.ignite_types.specs.declared.names.TopVer.{TopVer}
use Rattle.ignite_types.specs.declared.names.TxId.{TxId}
use Rattle.ignite_types.specs.declared.scenario.Command.{Command}
use Rattle.ignite_types.specs.declared.text.Key.{Key}
use Rattle.ordered_set.specs.Members.{with_member}
use Rattle.ordered_table.specs.Entries.{at, put}
use Rattle.tx_model.specs.History as history
use Rattle.tx_model.specs.History.{walk_after_answer, walk_after_record, walk_with_closed, walk_with_find, walk_with_near, with_near_read}
use Rattle.tx_model.specs.declared.walk.Walk.{Walk}
use Rattle.ignite_types.specs.declared.journal.Rec.TheVariants as note
use Rattle.ignite_types.specs.declared.message.Message.TheVariants as msg

-- nothing that concerns the transaction has changed
still : (m m2 : Walks) (tx : TxId) (w : Walk) → session_line_of m2 tx.session ≡ session_line_of m tx.session →
    walk_of m2 tx ≡ walk_of m tx → near_told_of m2 tx.node ≡ near_told_of m tx.node → keys_in m2.overs ≡ keys_in m.overs →
    Follows m tx w → Follows m2 tx w
still m m2 tx w line walk near overs f = record {
  line = f.line;
  here = line ∙ f.here;
  home = f.home;
  agrees = rw (walk, near, overs) f.agrees;
}

session_other : (a b : TxId) → a.session ≢ b.session → same_tx a b ≡ false
session_other a b other =
    elim (same_tx a b) as (λ r. same_tx a b ≡ r → r ≡ false) [
      | true ↦ λ g. absurd (other (ap (λ (t : TxId). t.session) (same_tx_true a b g)))
      | false ↦ λ g. refl
    ] refl

number_other : (a b : TxId) → (a.number == b.number) ≡ false → same_tx a b ≡ false
number_other a b other =
    elim (same_tx a b) as (λ r. same_tx a b ≡ r → r ≡ false) [
      | true ↦ λ g. let same = ap (λ (t : TxId). t.number) (same_tx_true a b g) in absurd (grind (arith, nat_tests))
      | false ↦ λ g. refl
    ] refl

near_near_read : (m : Walks) (node : NodeId) (key : Option Key) →
    near_told_at m node key ≡ near_read_in (near_told_of m node) key
near_near_read m node None = refl
near_near_read m node (Some key) = refl

-- the transaction at hand of a session on the node is the one with that number
at_hand : (l : Line) (tx : TxId) → l.node ≡ tx.node → (l.started == tx.number) ≡ true → tx_of_line l tx.session ≡ tx
at_hand l tx home is =
    let number : l.started ≡ tx.number = grind (arith, nat_tests) in
    (λ i. record { node = home i; session = tx.session; number = number i })

-- Calls.

call_walk : (m : Walks) (tx : TxId) (after : Line) (c : Command) → after.node ≡ tx.node →
    walk_of (steps.walks_after_call_by m tx.session c after) tx ≡ after_near_read (near_told_of m tx.node) []
    (walk_of m tx).top (after.started == tx.number) c (walk_of m tx)
call_walk m tx after c home =
    let m1 = with_line m tx.session after in
    let v = walk_of m tx in
    elim (after.started == tx.number) as (λ b. (after.started == tx.number) ≡ b →
    walk_of (steps.walks_after_call_by m tx.session c after) tx ≡ after_near_read (near_told_of m tx.node) [] v.top b c v) [
      | true ↦ λ is.
          rw (at_hand after tx home is)
          (elim v.top as (λ t. walk_of (steps.walks_with_near_read_if m1 tx c (is_some t)) tx ≡ after_near_read
          (near_told_of m tx.node) [] t true c v) [
            | None ↦ refl
            | Some top ↦ walk_put m1 tx _ ∙ ap (λ (f : Found). record v { near_read = f })
                (near_near_read m1 tx.node (access_key c))
          ])
      | false ↦ λ apart.
          let cur = tx_of_line after tx.session in
          let other : same_tx cur tx ≡ false = number_other cur tx apart in
          let left : walk_of (steps.walks_after_call_by m tx.session c after) tx ≡ v =
          elim (walk_of m cur).top as (λ t. walk_of (steps.walks_with_near_read_if m1 cur c (is_some t)) tx ≡ v) [
            | None ↦ refl
            | Some top ↦ walk_put_other m1 cur tx _ other
          ] in
          left ∙ (elim v.top as (λ t. v ≡ after_near_read (near_told_of m tx.node) [] t false c v) [
            | None ↦ refl
            | Some top ↦ refl
          ])
    ] refl

-- a call changes no other table
call_rest : (m : Walks) (session : ℕ) (after : Line) (c : Command) (s : ℕ) (node : NodeId) →
    let m2 = steps.walks_after_call_by m session c after in
    (session_line_of m2 s ≡ session_line_of (with_line m session after) s) × (near_told_of m2 node ≡ near_told_of m node)
    × (keys_in m2.overs ≡ keys_in m.overs)
call_rest m session after c s node =
    let m1 = with_line m session after in
    elim (walk_of m (tx_of_line after session)).top as (λ t. let m2 =
    steps.walks_with_near_read_if m1 (tx_of_line after session) c (is_some t) in
    (session_line_of m2 s ≡ session_line_of m1 s) × (near_told_of m2 node ≡ near_told_of m node)
    × (keys_in m2.overs ≡ keys_in m.overs)) [
      | None ↦ (refl, refl, refl)
      | Some top ↦ (refl, refl, refl)
    ]

call_mine : (m : Walks) (tx : TxId) (w : Walk) (c : Command) → Follows m tx w →
    Follows (steps.walks_after_call m tx.session c (session_line_of m tx.session)) tx
    (history.with_near_read_if_started (history.walk_after_call w c) w.top)
call_mine m tx w c f =
    let after = line_after_call f.line c in
    let rest = call_rest m tx.session after c tx.session tx.node in
    rw f.here (record {
      line = after;
      here = rest.0 ∙ line_put m tx.session after;
      home = f.home;
      agrees = rw (call_walk m tx after c f.home, rest.1, rest.2)
          (call_agrees (near_told_of m tx.node) (keys_in m.overs) tx.number f.line (walk_of m tx) w c f.agrees);
    })

call_other : (m : Walks) (tx : TxId) (w : Walk) (s : ℕ) (c : Command) (line : Option Line) → s ≢ tx.session → Follows m tx w →
    Follows (steps.walks_after_call m s c line) tx w
call_other m tx w s c None other f = f
call_other m tx w s c (Some l) other f =
    let after = line_after_call l c in
    let cur = tx_of_line after s in
    let m1 = with_line m s after in
    let rest = call_rest m s after c tx.session tx.node in
    let walk : walk_of (steps.walks_after_call_by m s c after) tx ≡ walk_of m tx =
    elim (walk_of m cur).top as (λ t. walk_of (steps.walks_with_near_read_if m1 cur c (is_some t)) tx ≡ walk_of m tx) [
      | None ↦ refl
      | Some top ↦ walk_put_other m1 cur tx _ (session_other cur tx other)
    ] in
    still m (steps.walks_after_call_by m s c after) tx w (rest.0 ∙ line_put_other m s tx.session after other) walk rest.1
    rest.2 f

call_follows : (m : Walks) (tx : TxId) (w : Walk) (s : ℕ) (c : Command) → Follows m tx w →
    Follows (steps.walks_after_call m s c (session_line_of m s)) tx
    (if history.is_called tx s then history.with_near_read_if_started (history.walk_after_call w c) w.top else w)
call_follows m tx w s c f =
    elim (s == tx.session) as (λ b. (s == tx.session) ≡ b → Follows (steps.walks_after_call m s c (session_line_of m s)) tx
    (if b then history.with_near_read_if_started (history.walk_after_call w c) w.top else w)) [
      | true ↦ λ is. let same : tx.session ≡ s = grind (arith, nat_tests) in
          subst (λ n. Follows (steps.walks_after_call m n c (session_line_of m n)) tx
          (history.with_near_read_if_started (history.walk_after_call w c) w.top)) same (call_mine m tx w c f)
      | false ↦ λ apart. call_other m tx w s c (session_line_of m s) (λ h. absurd (grind (arith, nat_tests))) f
    ] refl

-- Answers.

answer_mine : (m : Walks) (tx : TxId) (w : Walk) (a : Answer) (called : Option Command) (f : Follows m tx w) →
    Follows (steps.walks_after_answer_by m tx.session a f.line called) tx (walk_after_answer tx w called a)
answer_mine m tx w a None f = f
answer_mine m tx w a (Some c) f =
    let l = f.line in
    let cur = tx_of_line l tx.session in
    let x = walk_after_answer cur (walk_at_line l (walk_of m cur)) (Some c) a in
    let m1 = with_walk m cur x in
    elim (l.started == tx.number) as (λ b. (l.started == tx.number) ≡ b →
    Follows (with_line m1 tx.session (line_after l x)) tx (walk_after_answer tx w (Some c) a)) [
      | true ↦ λ is.
          subst (λ (u : TxId). let y = walk_after_answer u (walk_at_line l (walk_of m u)) (Some c) a in
          Follows (with_line (with_walk m u y) tx.session (line_after l y)) tx (walk_after_answer tx w (Some c) a))
          (sym (at_hand l tx f.home is))
          (let y = walk_after_answer tx (walk_at_line l (walk_of m tx)) (Some c) a in
          record {
            line = line_after l y;
            here = line_put (with_walk m tx y) tx.session (line_after l y);
            home = f.home;
            agrees = rw (walk_put m tx y) (answer_agrees (near_told_of m tx.node) (keys_in m.overs) tx l
                (walk_of m tx) w c a f.agrees (grind (arith, nat_tests)));
          })
      | false ↦ λ apart. record {
        line = line_after l x;
        here = line_put m1 tx.session (line_after l x);
        home = f.home;
        agrees = rw (walk_put_other m cur tx x (number_other cur tx apart)) (answer_agrees_elsewhere (near_told_of m tx.node)
            (keys_in m.overs) tx cur l (walk_of m tx) (walk_of m cur) w c a f.agrees apart);
      }
    ] refl

answer_called : (m : Walks) (tx : TxId) (w : Walk) (a : Answer) → Follows m tx w →
    Follows (steps.walks_after_answer m tx.session a (session_line_of m tx.session)) tx (walk_after_answer tx w w.called a)
answer_called m tx w a f =
    let same : w.called ≡ f.line.called = ap (λ (x : Walk). x.called) f.agrees.same in
    rw f.here
    (subst (λ (k : Option Command). Follows (steps.walks_after_answer_by m tx.session a f.line f.line.called) tx
    (walk_after_answer tx w k a)) (sym same)
    (answer_mine m tx w a f.line.called f))

answer_other : (m : Walks) (tx : TxId) (w : Walk) (s : ℕ) (a : Answer) (l : Line) (called : Option Command) → s ≢ tx.session →
    Follows m tx w → Follows (steps.walks_after_answer_by m s a l called) tx w
answer_other m tx w s a l None other f = f
answer_other m tx w s a l (Some c) other f =
    let cur = tx_of_line l s in
    let x = walk_after_answer cur (walk_at_line l (walk_of m cur)) (Some c) a in
    let m1 = with_walk m cur x in
    still m (with_line m1 s (line_after l x)) tx w (line_put_other m1 s tx.session (line_after l x) other)
    (walk_put_other m cur tx x (session_other cur tx other)) refl refl f

answer_line : (m : Walks) (tx : TxId) (w : Walk) (s : ℕ) (a : Answer) (line : Option Line) → s ≢ tx.session → Follows m tx w →
    Follows (steps.walks_after_answer m s a line) tx w
answer_line m tx w s a None other f = f
answer_line m tx w s a (Some l) other f = answer_other m tx w s a l l.called other f

answer_follows : (m : Walks) (tx : TxId) (w : Walk) (s : ℕ) (a : Answer) → Follows m tx w →
    Follows (steps.walks_after_answer m s a (session_line_of m s)) tx
    (if history.is_called tx s then walk_after_answer tx w w.called a else w)
answer_follows m tx w s a f =
    elim (s == tx.session) as (λ b. (s == tx.session) ≡ b → Follows (steps.walks_after_answer m s a (session_line_of m s)) tx
    (if b then walk_after_answer tx w w.called a else w)) [
      | true ↦ λ is. let same : tx.session ≡ s = grind (arith, nat_tests) in
          subst (λ n. Follows (steps.walks_after_answer m n a (session_line_of m n)) tx (walk_after_answer tx w w.called a))
          same (answer_called m tx w a f)
      | false ↦ λ apart. answer_line m tx w s a (session_line_of m s) (λ h. absurd (grind (arith, nat_tests))) f
    ] refl

-- Starts.

start_walk : (m : Walks) (tx : TxId) (l : Line) (top : TopVer) → l.node ≡ tx.node →
    steps.walk_with_start_read m tx (record (walk_of m tx) { top = Some top }) (steps.open_call_of tx (Some l)) ≡ after_start
    (near_told_of m tx.node) [] l.called (l.started == tx.number) (record (walk_of m tx) { top = Some top })
start_walk m tx l top home =
    let v1 : Walk = record (walk_of m tx) { top = Some top } in
    elim (l.started == tx.number) as (λ b. (l.started == tx.number) ≡ b →
    steps.walk_with_start_read m tx v1 (steps.open_call_of tx (Some l)) ≡ after_start (near_told_of m tx.node) [] l.called
    b v1) [
      | true ↦ λ is.
          let same : same_tx (tx_of_line l tx.session) tx ≡ true = ap (λ (u : TxId). same_tx u tx) (at_hand l tx home is)
          ∙ same_tx_itself tx in
          rw same
          (elim l.called as (λ k. steps.walk_with_start_read m tx v1 k ≡ after_start (near_told_of m tx.node) [] k true v1) [
            | None ↦ refl
            | Some c ↦ ap (λ (f : Found). record v1 { near_read = f }) (near_near_read m tx.node (access_key c))
          ])
      | false ↦ λ apart.
          rw (number_other (tx_of_line l tx.session) tx apart)
          (elim l.called as (λ k. v1 ≡ after_start (near_told_of m tx.node) [] k false v1) [
            | None ↦ refl
            | Some c ↦ refl
          ])
    ] refl

start_mine : (m : Walks) (tx : TxId) (w : Walk) (top : TopVer) → Follows m tx w →
    Follows (steps.walks_after_start m tx top) tx (with_near_read (record w { top = Some top }) w.called)
start_mine m tx w top f = record {
  line = f.line;
  here = f.here;
  home = f.home;
  agrees =
      rw (
        walk_put m tx (steps.walk_with_start_read m tx (record (walk_of m tx) { top = Some top })
            (steps.open_call_of tx (session_line_of m tx.session))),
        f.here,
        start_walk m tx f.line top f.home,
      )
      (start_agrees (near_told_of m tx.node) (keys_in m.overs) tx.number f.line (walk_of m tx) w top f.agrees);
}

start_follows : (m : Walks) (tx : TxId) (w : Walk) (u : TxId) (top : TopVer) → Follows m tx w →
    Follows (steps.walks_after_start m u top) tx (if same_tx u tx then with_near_read (record w { top = Some top }) w.called
    else w)
start_follows m tx w u top f =
    elim (same_tx u tx) as (λ b. same_tx u tx ≡ b →
    Follows (steps.walks_after_start m u top) tx (if b then with_near_read (record w { top = Some top }) w.called else w)) [
      | true ↦ λ is. subst (λ (x : TxId). Follows (steps.walks_after_start m x top) tx
          (with_near_read (record w { top = Some top }) w.called)) (sym (same_tx_true u tx is)) (start_mine m tx w top f)
      | false ↦ λ apart. still m (steps.walks_after_start m u top) tx w refl (walk_put_other m u tx _ apart) refl refl f
    ] refl

-- Finds.

over_is : (m : Walks) (tx u : TxId) (w : Walk) → Follows m tx w → history.is_tx_closed w u ≡ steps.is_closed_in m u
over_is m tx u w f = ap (λ (x : Walk). history.is_tx_closed x u) f.agrees.same ∙ has_keys m.overs u

find_mine : (m : Walks) (tx : TxId) (w : Walk) (key : Key) (g : Found) → Follows m tx w →
    Follows (with_walk m tx (walk_with_find (walk_of m tx) key (at key_cmp (walk_of m tx).finds key) g)) tx
    (walk_with_find w key (at key_cmp w.finds key) g)
find_mine m tx w key g f = record {
  line = f.line;
  here = f.here;
  home = f.home;
  agrees =
      rw (walk_put m tx (walk_with_find (walk_of m tx) key (at key_cmp (walk_of m tx).finds key) g))
      (find_agrees (near_told_of m tx.node) (keys_in m.overs) tx.number f.line (walk_of m tx) w key g f.agrees);
}

find_open : (m : Walks) (tx u : TxId) (w : Walk) (key : Key) (g : Found) → Follows m tx w →
    Follows (with_walk m u (walk_with_find (walk_of m u) key (at key_cmp (walk_of m u).finds key) g)) tx
    (if same_tx u tx then walk_with_find w key (at key_cmp w.finds key) g else w)
find_open m tx u w key g f =
    elim (same_tx u tx) as (λ b. same_tx u tx ≡ b →
    Follows (with_walk m u (walk_with_find (walk_of m u) key (at key_cmp (walk_of m u).finds key) g)) tx
    (if b then walk_with_find w key (at key_cmp w.finds key) g else w)) [
      | true ↦ λ is. subst (λ (x : TxId).
          Follows (with_walk m x (walk_with_find (walk_of m x) key (at key_cmp (walk_of m x).finds key) g)) tx
          (walk_with_find w key (at key_cmp w.finds key) g)) (sym (same_tx_true u tx is)) (find_mine m tx w key g f)
      | false ↦ λ apart. still m (with_walk m u (walk_with_find (walk_of m u) key (at key_cmp (walk_of m u).finds key) g)) tx
          w refl (walk_put_other m u tx _ apart) refl refl f
    ] refl

and_true : (b : Bool) → (b && true) ≡ b
and_true true = refl
and_true false = refl

and_false : (b : Bool) → (b && false) ≡ false
and_false true = refl
and_false false = refl

find_follows : (m : Walks) (tx u : TxId) (w : Walk) (key : Key) (g : Found) → Follows m tx w →
    Follows (steps.walks_after_find m u key g) tx (history.walk_after_find tx w u key g)
find_follows m tx u w key g f =
    rw (over_is m tx u w f)
    (elim (steps.is_closed_in m u) as (λ b.
    Follows (if b then m else with_walk m u (walk_with_find (walk_of m u) key (at key_cmp (walk_of m u).finds key) g)) tx
    (if same_tx u tx && not b then walk_with_find w key (at key_cmp w.finds key) g else w)) [
      | true ↦ rw (and_false (same_tx u tx)) f
      | false ↦ rw (and_true (same_tx u tx)) (find_open m tx u w key g f)
    ])

-- Near caches.

told_mine : (m : Walks) (tx : TxId) (w : Walk) (key : Key) (g : Found) → Follows m tx w →
    Follows (with_near m tx.node (put key_cmp (near_told_of m tx.node) key g)) tx (walk_with_near w key g)
told_mine m tx w key g f =
    let near = put key_cmp (near_told_of m tx.node) key g in
    let same : w ≡ assembled f.line (walk_of m tx) (near_told_of m tx.node) (keys_in m.overs) w.near_read = f.agrees.same in
    let told : walk_with_near w key g ≡ record w { near = near; overs = keys_in m.overs } =
    ap (λ (x : Walk). walk_with_near x key g) same
    ∙ sym (ap (λ (x : Walk). record x { near = near; overs = keys_in m.overs }) same) in
    record {
      line = f.line;
      here = f.here;
      home = f.home;
      agrees =
          rw (near_put m tx.node near)
          (subst (λ (x : Walk). Agrees tx.number f.line (walk_of m tx) near (keys_in m.overs) x) (sym told)
          (beside_agrees (near_told_of m tx.node) (keys_in m.overs) tx.number f.line (walk_of m tx) w near
          (keys_in m.overs) f.agrees));
    }

told_follows : (m : Walks) (tx : TxId) (w : Walk) (to : Option NodeId) (key : Key) (g : Found) → Follows m tx w →
    Follows (steps.walks_after_near_update m to key g) tx (if is_node tx.node to then walk_with_near w key g else w)
told_follows m tx w None key g f = f
told_follows m tx w (Some node) key g f =
    elim (same_node tx.node node) as (λ b. same_node tx.node node ≡ b →
    Follows (steps.walks_after_near_update m (Some node) key g) tx (if b then walk_with_near w key g else w)) [
      | true ↦ λ is. subst (λ (n : NodeId). Follows (steps.walks_after_near_update m (Some n) key g) tx
          (walk_with_near w key g)) (same_node_true tx.node node is) (told_mine m tx w key g f)
      | false ↦ λ apart.
          let back : same_node node tx.node ≡ false = grind (arith, nat_tests) in
          still m (steps.walks_after_near_update m (Some node) key g) tx w refl refl (near_put_other m node tx.node _ back)
          refl f
    ] refl

got_follows : (m : Walks) (tx : TxId) (w : Walk) (to : Option NodeId) (u : TxId) (key : Key) (g : Found) → Follows m tx w →
    Follows (steps.walks_after_near_get m to u key g) tx (history.walk_after_near_get tx w to u key g)
got_follows m tx w to u key None f = f
got_follows m tx w to u key (Some g) f =
    rw (over_is m tx u w f)
    (elim (steps.is_closed_in m u) as (λ b. Follows (if b then m else steps.walks_after_near_update m to key (Some g)) tx
    (if is_node tx.node to && not b then walk_with_near w key (Some g) else w)) [
      | true ↦ rw (and_false (is_node tx.node to)) f
      | false ↦ rw (and_true (is_node tx.node to)) (told_follows m tx w to key (Some g) f)
    ])

deliver_follows : (m : Walks) (tx : TxId) (w : Walk) (to : Option NodeId) (message : Message) → Follows m tx w →
    Follows (steps.walks_after_delivery m to message) tx (history.walk_after_delivery tx w to message)
deliver_follows m tx w to (msg.LockOk u key g) f = find_follows m tx u w key g f
deliver_follows m tx w to (msg.GetOk u key g) f = got_follows (steps.walks_after_find m u key g) tx
    (history.walk_after_find tx w u key g) to u key g (find_follows m tx u w key g f)
deliver_follows m tx w to (msg.NearUpdate u key new ver) f = told_follows m tx w to key (history.found_after_update new ver) f
deliver_follows m tx w to (msg.Lock u top key) f = f
deliver_follows m tx w to (msg.Get u key near) f = f
deliver_follows m tx w to (msg.Prepare u top mode shares wanted writes) f = f
deliver_follows m tx w to (msg.Prepared u) f = f
deliver_follows m tx w to (msg.PrepareFail u fail) f = f
deliver_follows m tx w to (msg.BackupPrepare u top shares primary writes) f = f
deliver_follows m tx w to (msg.BackupPrepared u) f = f
deliver_follows m tx w to (msg.Finish u commit) f = f
deliver_follows m tx w to (msg.Finished u) f = f
deliver_follows m tx w to (msg.BackupFinish u primary commit) f = f
deliver_follows m tx w to (msg.BackupFinished u primary) f = f
deliver_follows m tx w to (msg.NearDone u key) f = f
deliver_follows m tx w to (msg.Edges u round of) f = f
deliver_follows m tx w to (msg.EdgesOk u round act waits) f = f
deliver_follows m tx w to (msg.Single top map complete) f = f
deliver_follows m tx w to (msg.Full map) f = f
deliver_follows m tx w to (msg.Installed top) f = f
deliver_follows m tx w to (msg.Opens top) f = f
deliver_follows m tx w to (msg.Demand top part after) f = f
deliver_follows m tx w to (msg.Supply top part entries last) f = f
deliver_follows m tx w to (msg.Complete top) f = f
deliver_follows m tx w to (msg.Orphans round list) f = f

-- Decisions and faults.

over_follows : (m : Walks) (tx : TxId) (w : Walk) (u : TxId) → Follows m tx w →
    Follows (steps.walks_with_closed m u) tx (walk_with_closed w u)
over_follows m tx w u f =
    let overs = with_member tx_cmp (keys_in m.overs) u in
    let same : w ≡ assembled f.line (walk_of m tx) (near_told_of m tx.node) (keys_in m.overs) w.near_read = f.agrees.same in
    let over : walk_with_closed w u ≡ record w { near = near_told_of m tx.node; overs = overs } =
    ap (λ (x : Walk). walk_with_closed x u) same
    ∙ sym (ap (λ (x : Walk). record x { near = near_told_of m tx.node; overs = overs }) same) in
    record {
      line = f.line;
      here = f.here;
      home = f.home;
      agrees =
          rw (keys_put m.overs u)
          (subst (λ (x : Walk). Agrees tx.number f.line (walk_of m tx) (near_told_of m tx.node) overs x) (sym over)
          (beside_agrees (near_told_of m tx.node) (keys_in m.overs) tx.number f.line (walk_of m tx) w (near_told_of m tx.node)
          overs f.agrees));
    }

-- a walk that says so stays the same when it is told that it is committed
told_again : (w : Walk) (b : Bool) → w.committed ≡ b → record w { committed = b } ≡ w
told_again w b is = rw (← is) refl

or_true : (b : Bool) → (b || true) ≡ true
or_true true = refl
or_true false = refl

commit_mine : (m : Walks) (tx : TxId) (w : Walk) → Follows m tx w →
    Follows (steps.walks_with_commit m tx) tx (record w { committed = w.committed || true })
commit_mine m tx w f =
    subst (λ b. Follows (steps.walks_with_commit m tx) tx (record w { committed = b })) (sym (or_true w.committed))
    (record {
      line = f.line;
      here = f.here;
      home = f.home;
      agrees = rw (walk_put m tx (record (walk_of m tx) { committed = true }))
          (commit_agrees (near_told_of m tx.node) (keys_in m.overs) tx.number f.line (walk_of m tx) w f.agrees);
    })

commit_other : (m : Walks) (tx u : TxId) (w : Walk) → same_tx u tx ≡ false → Follows m tx w →
    Follows (steps.walks_with_commit m u) tx w
commit_other m tx u w other f = still m (steps.walks_with_commit m u) tx w refl (walk_put_other m u tx _ other) refl refl f

undecided : (w : Walk) → record w { committed = w.committed || false } ≡ w
undecided w = elim w.committed as (λ b. w.committed ≡ b → record w { committed = b || false } ≡ w) [
  | true ↦ λ is. told_again w true is
  | false ↦ λ is. told_again w false is
] refl

decide_follows : (m : Walks) (tx : TxId) (w : Walk) (u : TxId) (commit : Bool) → Follows m tx w →
    Follows (steps.walks_after_decide m u commit) tx (history.walk_after_decide tx w u commit)
decide_follows m tx w u true f =
    elim (same_tx u tx) as (λ b. same_tx u tx ≡ b → Follows (steps.walks_with_closed (steps.walks_with_commit m u) u) tx
    (if b then walk_with_closed (record w { committed = w.committed || true }) u else walk_with_closed w u)) [
      | true ↦ λ is. subst (λ (x : TxId). Follows (steps.walks_with_closed (steps.walks_with_commit m x) x) tx
          (walk_with_closed (record w { committed = w.committed || true }) x)) (sym (same_tx_true u tx is))
          (over_follows (steps.walks_with_commit m tx) tx (record w { committed = w.committed || true }) tx
          (commit_mine m tx w f))
      | false ↦ λ apart. over_follows (steps.walks_with_commit m u) tx w u (commit_other m tx u w apart f)
    ] refl
decide_follows m tx w u false f =
    elim (same_tx u tx) as (λ b. Follows (steps.walks_with_closed m u) tx
    (if b then walk_with_closed (record w { committed = w.committed || false }) u else walk_with_closed w u)) [
      | true ↦ over_follows m tx (record w { committed = w.committed || false }) u
          (subst (λ (x : Walk). Follows m tx x) (sym (undecided w)) f)
      | false ↦ over_follows m tx w u f
    ]

-- All records.

pub step_follows : (m : Walks) (tx : TxId) (w : Walk) (to : Option NodeId) (r : Rec) → Follows m tx w →
    Follows (walks_after_record m to r) tx (walk_after_record tx to w r)
step_follows m tx w to (note.Call s c) f = call_follows m tx w s c f
step_follows m tx w to (note.Answer s a) f = answer_follows m tx w s a f
step_follows m tx w to (note.Deliver from message) f = deliver_follows m tx w to message f
step_follows m tx w to (note.Start u top) f = start_follows m tx w u top f
step_follows m tx w to (note.Decide u commit) f = decide_follows m tx w u commit f
step_follows m tx w to (note.Fault u why) f = over_follows m tx w u f
step_follows m tx w to (note.Sent node message) f = f
step_follows m tx w to (note.See place) f = f
step_follows m tx w to (note.Grant u top key) f = f
step_follows m tx w to (note.Queue u key holder) f = f
step_follows m tx w to (note.Drop u key) f = f
step_follows m tx w to (note.Apply u top primary key new ver) f = f
step_follows m tx w to (note.Install map) f = f
step_follows m tx w to (note.Opened top) f = f
step_follows m tx w to (note.Lost node) f = f
step_follows m tx w to (note.Tick moment) f = f
step_follows m tx w to (note.Waits u round waits) f = f
step_follows m tx w to (note.Expire u) f = f
step_follows m tx w to (note.Searched u edges) f = f
step_follows m tx w to (note.Planned place refused) f = f
step_follows m tx w to note.Memory f = f
