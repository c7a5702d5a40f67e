use Rattle.std.proofs.Common.{arith, ap, sym, ◌∙◌, ◌≡◌, ◌+◌, ◌≤◌, ◌∷◌, [], length, length-append, min, map, take, drop, ℕ, List}
use lib.ListN.{get_elem?}
use Rattle.part_table.proofs.table.Parts.close.Goals.{then-found-limit, else-found-limit}
use Rattle.part_table.specs.History as history
use Rattle.std.proofs.lemmas.List.Sorted.{length_permutation}
use Rattle.part_table.specs.Surface.{EachOnce, PassView}
use Rattle.part_table.proofs.Opening.{count_length, map_length}
use Rattle.part_table.specs.Rule.{numbers_from}
use Rattle.part_table.specs.Turns.{IsLater}
use Rattle.part_table.proofs.Dealing.{all_more, all_of_last}
use Rattle.part_table.proofs.Closed.{parts_there, some_event, lists_there, room_of, states_are, events_are, known_of, the_log, kept}
use Rattle.part_table.proofs.table.Parts.close.Goals as goal

-- as many passes as the table was made with
count_of : {M S E : Type 0} (n : ℕ) (passes : List (PassView M S E)) → EachOnce n passes → length passes ≡ n
count_of n passes each = sym (map_length (λ p. p.number) passes)
    ∙ (sym (length_permutation (map (λ p. p.number) passes) (numbers_from 0 n) each) ∙ count_length 0 n)

pub unreachable-requires : goal.unreachable-requires
unreachable-requires g c = let a = c.in_default.ensures.cases.0 in let b = count_of _ c.args.passes.items c.requires.each in
    let s = c.args.self.sized.6 in let o = c.args.passes.ok in omega (arith, a, b, s, o)

pub gather-seat-requires-clause-first : goal.gather-seat-requires-clause-first
gather-seat-requires-clause-first g c κs within =
    (all_of_last (λ (p : PassView g.row.M.Denot g.row.M-State.Denot g.row.M-Event.Denot).
    p.table ≡ c.args.self.table.shared.table_id) _ _ _ c.requires.own c.in-Some.ensures.items).1

pub gather-seat-requires-clause-others : goal.gather-seat-requires-clause-others
gather-seat-requires-clause-others g c κs within =
    (all_of_last (λ (p : PassView g.row.M.Denot g.row.M-State.Denot g.row.M-Event.Denot).
    p.table ≡ c.args.self.table.shared.table_id) _ _ _ c.requires.own c.in-Some.ensures.items).0

pub take_lists-states-requires-clause-whole : goal.take_lists-states-requires-clause-whole
take_lists-states-requires-clause-whole g c = λ k lt. c.close_with-closed.ensures.values.1 k (omega arith) lt

pub take_lists-states-requires-clause-lists : goal.take_lists-states-requires-clause-lists
take_lists-states-requires-clause-lists g c =
    let key = c.args.self.table.shared.key in let sized = c.args.self.sized in
    let r = history.rules key.parts (g.M.Machine.opening key.machine) (g.M.Machine.touches key.machine)
    (g.M.Machine.relates key.machine) in
    let all : length c.gather-seat.result.me.0.numbers ≡ key.passes = (let a = c.gather-seat.ensures.idle.0 in let b =
    ap (λ l. length l) c.in-Some.ensures.items in let d = count_of _ c.args.passes.items c.requires.each in let e =
    length-append c.pop.new.self.items (c.in-Some.first ∷ []) in omega (arith, a, b, d, e)) in
    let last : key.parts + key.limit ≡ c.args.self.count + c.args.self.limit =
    (let p = sized.2 in let l = sized.3 in omega (arith, p, l)) in
    let h = lists_there r key.limit key.passes key.machine _ _ _ _ c.close_with-closed.ensures.values.2 all
    c.gather-seat.ensures.idle.1 c.gather-seat.ensures.idle.2 c.word-found.result c.word-found.ensures in
    (h.0, h.1, ap (λ n. get_elem? c.close_with-closed.result.slots.items n) (sym last) ∙ h.2)

pub take_states-states-requires-clause-room : goal.take_states-states-requires-clause-room
take_states-states-requires-clause-room g c =
    let key = c.args.self.table.shared.key in let sized = c.args.self.sized in
    let r = history.rules key.parts (g.M.Machine.opening key.machine) (g.M.Machine.touches key.machine)
    (g.M.Machine.relates key.machine) in
    let all : length c.gather-seat.result.me.0.numbers ≡ key.passes = (let a = c.gather-seat.ensures.idle.0 in let b =
    ap (λ l. length l) c.in-Some.ensures.items in let d = count_of _ c.args.passes.items c.requires.each in let e =
    length-append c.pop.new.self.items (c.in-Some.first ∷ []) in omega (arith, a, b, d, e)) in
    let last : key.parts + key.limit ≡ c.args.self.count + c.args.self.limit =
    (let p = sized.2 in let l = sized.3 in omega (arith, p, l)) in
    let room = room_of r key.limit key.passes key.machine _ _ _ _ c.close_with-closed.ensures.values.2 all
    c.gather-seat.ensures.idle.1 c.gather-seat.ensures.idle.2 c.word-found.result c.word-found.ensures
    c.take_lists-states.result.0 c.take_lists-states.result.1
    (ap (λ n. get_elem? c.close_with-closed.result.slots.items n) last ∙ c.take_lists-states.ensures.lists) in (
      room.no_states,
      (let a = room.states in let p = sized.2 in omega (arith, a, p)),
      (let a = c.take_lists-states.ensures.same.1 in let b = c.close_with-closed.ensures.counts.1 in let s = sized.1 in
          omega (arith, a, b, s)),
    )

pub take_events-events-requires-clause-room : goal.take_events-events-requires-clause-room
take_events-events-requires-clause-room g c =
    let key = c.args.self.table.shared.key in let sized = c.args.self.sized in
    let r = history.rules key.parts (g.M.Machine.opening key.machine) (g.M.Machine.touches key.machine)
    (g.M.Machine.relates key.machine) in
    let all : length c.gather-seat.result.me.0.numbers ≡ key.passes = (let a = c.gather-seat.ensures.idle.0 in let b =
    ap (λ l. length l) c.in-Some.ensures.items in let d = count_of _ c.args.passes.items c.requires.each in let e =
    length-append c.pop.new.self.items (c.in-Some.first ∷ []) in omega (arith, a, b, d, e)) in
    let last : key.parts + key.limit ≡ c.args.self.count + c.args.self.limit =
    (let p = sized.2 in let l = sized.3 in omega (arith, p, l)) in
    let room = room_of r key.limit key.passes key.machine _ _ _ _ c.close_with-closed.ensures.values.2 all
    c.gather-seat.ensures.idle.1 c.gather-seat.ensures.idle.2 c.word-found.result c.word-found.ensures
    c.take_lists-states.result.0 c.take_lists-states.result.1
    (ap (λ n. get_elem? c.close_with-closed.result.slots.items n) last ∙ c.take_lists-states.ensures.lists) in
    let entries : c.if-found-limit.entries ≤ key.limit = elim c.if-found-limit.branch [
      | then-found-limit w ↦
          (let a = w.if-found-limit in let b = w.entries-is in let s = sized.3 in omega (arith, a, b, s))
      | else-found-limit w ↦
          (let a = w.if-found-limit in let b = w.entries-is in let s = sized.3 in omega (arith, a, b, s))
    ] in (
      room.no_events,
      (let a = room.events in omega (arith, a, entries)),
      (let a = c.take_lists-states.ensures.same.1 in let d = c.take_states-states.ensures.same.1 in let b =
          c.close_with-closed.ensures.counts.1 in let s = sized.1 in let l = sized.3 in omega (arith, a, b, d, s, l, entries)),
    )

pub take_states-states-requires-clause-parts : goal.take_states-states-requires-clause-parts
take_states-states-requires-clause-parts g c p lt = let key = c.args.self.table.shared.key in let sized = c.args.self.sized in
    let r = history.rules key.parts (g.M.Machine.opening key.machine) (g.M.Machine.touches key.machine)
    (g.M.Machine.relates key.machine) in
    let all : length c.gather-seat.result.me.0.numbers ≡ key.passes = (let a = c.gather-seat.ensures.idle.0 in let b =
    ap (λ l. length l) c.in-Some.ensures.items in let d = count_of _ c.args.passes.items c.requires.each in let e =
    length-append c.pop.new.self.items (c.in-Some.first ∷ []) in omega (arith, a, b, d, e)) in (
      _,
      ap (λ l. get_elem? l p) c.take_lists-states.ensures.same.0
          ∙ parts_there r key.limit key.passes key.machine _ _ _ _ c.close_with-closed.ensures.values.2 all
          c.gather-seat.ensures.idle.1 c.gather-seat.ensures.idle.2 c.word-found.result c.word-found.ensures p (let s =
          sized.2 in omega (arith, s, lt)),
    )

pub take_events-events-requires-clause-places : goal.take_events-events-requires-clause-places
take_events-events-requires-clause-places g c j lt = let key = c.args.self.table.shared.key in let sized = c.args.self.sized in
    let r = history.rules key.parts (g.M.Machine.opening key.machine) (g.M.Machine.touches key.machine)
    (g.M.Machine.relates key.machine) in
    let all : length c.gather-seat.result.me.0.numbers ≡ key.passes = (let a = c.gather-seat.ensures.idle.0 in let b =
    ap (λ l. length l) c.in-Some.ensures.items in let d = count_of _ c.args.passes.items c.requires.each in let e =
    length-append c.pop.new.self.items (c.in-Some.first ∷ []) in omega (arith, a, b, d, e)) in
    let entries : c.if-found-limit.entries ≡ min c.word-found.result key.limit =
    elim c.if-found-limit.branch [
      | then-found-limit w ↦ (let a = w.if-found-limit in let b = w.entries-is in let s =
          sized.3 in omega (arith, a, b, s))
      | else-found-limit w ↦ (let a = w.if-found-limit in let b = w.entries-is in let s =
          sized.3 in omega (arith, a, b, s))
    ] in
    let t = some_event r key.limit key.passes key.machine _ _ _ _ c.close_with-closed.ensures.values.2 all
    c.gather-seat.ensures.idle.1 c.gather-seat.ensures.idle.2 c.word-found.result c.word-found.ensures j
    (omega (arith, entries, lt)) in (
      t.0,
      ap (λ l. get_elem? l (c.args.self.count + j)) (c.take_states-states.ensures.same.0
          ∙ c.take_lists-states.ensures.same.0)
          ∙ (ap (λ n. get_elem? c.close_with-closed.result.slots.items (n + j)) (sym sized.2) ∙ t.1),
    )

pub returns : goal.returns
returns g c = let key = c.args.self.table.shared.key in let sized = c.args.self.sized in
    let r = history.rules key.parts (g.M.Machine.opening key.machine) (g.M.Machine.touches key.machine)
    (g.M.Machine.relates key.machine) in
    let all : length c.gather-seat.result.me.0.numbers ≡ key.passes = (let a = c.gather-seat.ensures.idle.0 in let b =
    ap (λ l. length l) c.in-Some.ensures.items in let d = count_of _ c.args.passes.items c.requires.each in let e =
    length-append c.pop.new.self.items (c.in-Some.first ∷ []) in omega (arith, a, b, d, e)) in
    let entries : c.if-found-limit.entries ≡ min c.word-found.result key.limit =
    elim c.if-found-limit.branch [
      | then-found-limit w ↦ (let a = w.if-found-limit in let b = w.entries-is in let s =
          sized.3 in omega (arith, a, b, s))
      | else-found-limit w ↦ (let a = w.if-found-limit in let b = w.entries-is in let s =
          sized.3 in omega (arith, a, b, s))
    ] in
    let log = the_log r key.limit key.passes key.machine _ _ _ _ c.close_with-closed.ensures.values.2 all
    c.gather-seat.ensures.idle.1 c.gather-seat.ensures.idle.2 c.word-found.result c.word-found.ensures in
    let known = known_of r key.limit key.passes key.machine _ _ _ _ c.close_with-closed.ensures.values.2 all
    c.gather-seat.ensures.idle.1 c.gather-seat.ensures.idle.2 c.word-found.result c.word-found.ensures in
    record {
      history = (
        log,
        record {
          legal = (kept r key.limit key.passes key.machine _ _ _ _ c.close_with-closed.ensures.values.2 all
              c.gather-seat.ensures.idle.1 c.gather-seat.ensures.idle.2 c.word-found.result c.word-found.ensures).legal;
          journal = events_are r key.limit key.passes key.machine _ _ _ _ c.close_with-closed.ensures.values.2 all
              c.gather-seat.ensures.idle.1 c.gather-seat.ensures.idle.2 c.word-found.result c.word-found.ensures _
              c.if-found-limit.entries entries
              (c.take_events-events.ensures.events
              ∙ (λ i. take c.if-found-limit.entries
              (drop (sym sized.2 i) ((c.take_states-states.ensures.same.0 ∙ c.take_lists-states.ensures.same.0) i))));
          values = states_are r key.limit key.passes key.machine _ _ _ _ c.close_with-closed.ensures.values.2 all
              c.gather-seat.ensures.idle.1 c.gather-seat.ensures.idle.2 c.word-found.result c.word-found.ensures _
              (c.take_states-states.ensures.states ∙ ((λ i. take (sym sized.2 i) (c.take_lists-states.ensures.same.0 i))))
              ∙ ap (λ n. map (history.replay r log) (numbers_from 0 n)) sized.2;
          known = all_more (λ (p : PassView g.row.M.Denot g.row.M-State.Denot g.row.M-Event.Denot).
              IsLater p.number p.seen log) _ _ _ (λ k d lt. known _ _ (c.gather-seat.ensures.others k d lt))
              (known _ _ c.gather-seat.ensures.first) c.in-Some.ensures.items;
          strangers = (kept r key.limit key.passes key.machine _ _ _ _ c.close_with-closed.ensures.values.2 all
              c.gather-seat.ensures.idle.1 c.gather-seat.ensures.idle.2 c.word-found.result c.word-found.ensures).strangers;
        },
      );
    }
