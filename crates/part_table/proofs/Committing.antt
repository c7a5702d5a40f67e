-- The step that adds an event to the history keeps the rule.
use Rattle.std.proofs.Common.{◌≡◌, ℕ, ◌+◌, ◌%◌, ◌^◌, ◌<◌, ◌≤◌, ◌≢◌, ◌||◌, if◌then◌else◌, true, false, List, [], ◌∷◌, ◌++◌, map, length, set, sym, refl, ap, ◌∙◌, subst, inl, inr, ⊎_elim, arith, length-set, length-append, get_or-set_other, get_or-set_same, eq-eqb, ne_eqb, Some, slice_index, MatchBool}
use Rattle.std.proofs.lemmas.Bool.{cases_eq}
use mathlib.Core.Option.{some, none, some-injective, some-ne-none}
use mathlib.Core.List.{IsPrefix}
use lib.ListN.{get_elem?}
use Rattle.atomic_table.specs.Table.{State, Me, Act, step, keeps, takes, stepped, Valid, carried_after, Allows}
use Rattle.atomic_table.proofs.Lists.{at_set, set_else, at_longer, at_last}
use Rattle.part_table.specs.declared.rule.Entry.{Entry}
use Rattle.part_table.specs.declared.rule.Slot.{Slot}
use Rattle.part_table.specs.declared.rule.Slot.TheVariants.{Part, Empty}
use Rattle.part_table.specs.declared.rule.View.{View}
use Rattle.part_table.specs.History.{IsLegal, MayCome, Rules, held_at, held_pairs, own, replay, replay_or}
use Rattle.part_table.specs.Rule.{Commits, IsAt, Kept, Knows, Lands, Overshoots, committed, full, is_in}
use Rattle.part_table.specs.Turns.{Ready}
use Rattle.part_table.proofs.Histories.{replay_snoc, legal_snoc, own_else, prefix_more, prefix_self, held_other, values_are}
use Rattle.part_table.proofs.Looking.{reviewed, lt_or, le-ltb}
use Rattle.std.proofs.lemmas.Bool.{lt-ltb}
use Rattle.std.proofs.Math.Nat.{mod-eq_of_lt}
use Rattle.part_table.proofs.Taking.{total_set, place_of, here, but, but_same, but_else, none_if, holds_set, reserved_else}

pub own_append : {S E : Type 0} (k : ℕ) (xs ys : List (Entry S E)) → own k (xs ++ ys) ≡ own k xs ++ own k ys
own_append k [] ys = refl
own_append k (x ∷ xs) ys = ⊎_elim
    (λ e. let f = eq-eqb x.by k e in ap (λ b. if b then x ∷ own k (xs ++ ys) else own k (xs ++ ys)) f
    ∙ (ap (λ l. x ∷ l) (own_append k xs ys) ∙ sym (ap (λ b. (if b then x ∷ own k xs else own k xs) ++ own k ys) f)))
    (λ ne. let f = ne_eqb x.by k ne in ap (λ b. if b then x ∷ own k (xs ++ ys) else own k (xs ++ ys)) f
    ∙ (own_append k xs ys ∙ sym (ap (λ b. (if b then x ∷ own k xs else own k xs) ++ own k ys) f)))
    (cases_eq x.by k)

pub no_more : {A : Type 0} (xs ys : List A) → xs ++ ys ≡ xs → ys ≡ []
no_more [] ys h = h
no_more (x ∷ xs) ys h = no_more xs ys (cc h)

-- where the own entries of the whole are those of its beginning, the rest has none
pub own_rest : {S E : Type 0} (k : ℕ) (xs ys : List (Entry S E)) → own k (xs ++ ys) ≡ own k xs → own k ys ≡ []
own_rest k xs ys h = no_more (own k xs) (own k ys) (sym (own_append k xs ys) ∙ h)

pub number_in : (k : ℕ) (ks : List ℕ) → ks ≡ k ∷ [] → is_in k ks ≡ true
number_in k ks e = ap (is_in k) e ∙ ap (λ b. b || false) (eq-eqb k k refl)

pub only_number : (k j : ℕ) (ks : List ℕ) → ks ≡ k ∷ [] → is_in j ks ≡ true → k ≡ j
only_number k j ks e h = ⊎_elim (λ q. q) (λ ne. absurd (cc (sym h ∙ (ap (is_in j) e ∙ ap (λ b. b || false) (ne_eqb k j ne)))))
    (cases_eq k j)

module _ {M S E : Type 0} (r : Rules S E) (limit passes : ℕ) (m : M) where
  module _ (s : State (Slot S E) (View M S E)) (k : Kept r limit passes m s) (id number : ℕ) (e : E) (ids : List ℕ)
      (olds news : List S) (me : Me (Slot S E) (View M S E)) (at : get_elem? s.views id ≡ some me.0)
      (rd : Ready r number e ids olds news me) where
    abbrev v : View M S E
    v = me.0

    kv : Knows r limit passes m k.log s.words k.owner k.writer k.session_state id me.0
    kv = k.views id me.0 at

    abbrev n : ℕ
    n = slice_index s.words 0

    abbrev entry : Entry S E
    entry = record { event = e; news = news; by = number }

    abbrev log' : List (Entry S E)
    log' = k.log ++ entry ∷ []

    old_values : (p : ℕ) (x : S) → held_at p (held_pairs ids olds) ≡ Some x → (k.owner p ≡ id) × (p < r.parts)
        × (slice_index s.words (p + 1) ≡ 1) × (x ≡ replay r k.log p)
    old_values p x h = kv.held p x (ap (held_at p) rd.held ∙ h)

    may : MayCome r (replay r k.log) entry
    may = (
      sym rd.new_count ∙ ap (λ (l : List ℕ). length l) rd.touched,
      subst (λ os. r.relates e os news)
          (sym (ap (map (replay r k.log)) (sym rd.touched) ∙ values_are (replay r k.log) 0 ids olds rd.ascending rd.old_count
          (λ p x h. (old_values p x h).3))) rd.relates,
    )

    legal' : IsLegal r log'
    legal' = legal_snoc r r.opening k.log entry k.legal may

    value : (p : ℕ) → replay r log' p ≡ replay_or (held_at p (held_pairs ids news)) (replay r k.log p)
    value p = ap (λ f. f p) (replay_snoc r r.opening k.log entry)
        ∙ ap (λ is. replay_or (held_at p (held_pairs is news)) (replay r k.log p)) (sym rd.touched)

    value_in : (p : ℕ) (x : S) → held_at p (held_pairs ids news) ≡ Some x → x ≡ replay r log' p
    value_in p x h = sym (value p ∙ ap (λ o. replay_or o (replay r k.log p)) h)

    value_out : (p : ℕ) → ((x : S) → held_at p (held_pairs ids olds) ≡ Some x → ⊥) → replay r log' p ≡ replay r k.log p
    value_out p not = value p ∙ ap (λ o. replay_or o (replay r k.log p))
        (none_if (held_at p (held_pairs ids news)) (λ x h. let o = held_other p ids news olds x rd.old_count h in not o.0 o.1))

    abbrev w : View M S E
    w = committed me.0 log' (held_pairs ids news) n

    module _ (room : n < limit) where
      long : length k.log ≡ n
      long = let c = k.counted in omega (arith, c, room)

      word : (p : ℕ) → slice_index (set s.words 0 (n + 1)) (p + 1) ≡ slice_index s.words (p + 1)
      word p = get_or-set_other s.words 0 (p + 1) (n + 1) 0 (λ e. omega arith)

      word0 : slice_index (set s.words 0 (n + 1)) 0 ≡ n + 1
      word0 = get_or-set_same s.words 0 (n + 1) 0 (let h = k.wide in omega (arith, h))

      mine : Knows r limit passes m log' (set s.words 0 (n + 1)) k.owner (but k.writer n id) k.session_state id w
      mine = record {
        machine = kv.machine;
        seen = prefix_self log';
        mine = (λ j h. let o = kv.mine j h in (o.0, o.1, refl));
        told = (λ i j xs h. absurd (some-ne-none (j, xs) (sym (ap (λ l. get_elem? l i) (sym rd.told) ∙ h))));
        held = (λ p x h. let o = held_other p ids news olds x rd.old_count h in let t = old_values p o.0 o.1 in
            (t.0, t.1, word p ∙ t.2, value_in p x h));
        place = (λ j h. let is : n ≡ j = cc h in (
          ap (but k.writer n id) (sym is) ∙ but_same k.writer n id,
          (entry, ap (λ z. get_elem? log' z) (sym is) ∙ at_last k.log entry n long, rd.said),
        ));
        ready = (λ h. absurd (cc h));
        over = (λ _ h. let o = kv.ready rd.ready in omega (arith, o, h));
        idle = (λ h. absurd (cc (sym rd.numbers ∙ h)));
      }

      theirs : (j : ℕ) (u : View M S E) → j ≢ id → Knows r limit passes m k.log s.words k.owner k.writer k.session_state j u →
          Knows r limit passes m log' (set s.words 0 (n + 1)) k.owner (but k.writer n id) k.session_state j u
      theirs j u ne ku = let stranger : (q : ℕ) → is_in q u.numbers ≡ true → number ≢ q =
          (λ q h e. ne (sym (ku.mine q h).0
          ∙ (ap k.session_state (sym e) ∙ (kv.mine number (number_in number me.0.numbers rd.numbers)).0))) in record {
            machine = ku.machine;
            seen = prefix_more u.seen k.log entry ku.seen;
            mine = (λ q h. let o = ku.mine q h in (o.0, o.1, own_else q k.log entry (stranger q h) ∙ o.2));
            told = (λ i q xs h. let o = ku.told i q xs h in
                (o.0, prefix_more xs k.log entry o.1, own_else q k.log entry (stranger q o.0) ∙ o.2));
            held = (λ p x h. let t = ku.held p x h in
                (t.0, t.1, word p ∙ t.2, t.3 ∙ sym (value_out p (λ y g. ne (sym t.0 ∙ (old_values p y g).0)))));
            place = (λ q h. let t = ku.place q h in let below : q < length k.log = place_of k.log q t.1.0 t.1.1 in (
              but_else k.writer n id q (λ e. omega (arith, e, below, long)) ∙ t.0,
              (t.1.0, at_longer k.log (entry ∷ []) q t.1.0 t.1.1, t.1.2),
            ));
            ready = ku.ready;
            over = (λ a b. let o = ku.over a b in omega (arith, o, word0));
            idle = ku.idle;
          }

      at_place : (j : ℕ) (u : View M S E) → get_elem? s.views j ≡ some u → u.place ≡ Some n → ⊥
      at_place j u g h = let t = (k.views j u g).place n h in let below : n < length k.log = place_of k.log n t.1.0 t.1.1 in
          omega (arith, below, long)

      -- the place is still empty
      empty : get_elem? s.homes (r.parts + n) ≡ some (some Empty)
      empty = ⊎_elim (λ e. e.1)
          (λ f. ⊎_elim (λ g. absurd (let below : n < length k.log = place_of k.log n g.0 g.1 in omega (arith, below, long)))
          (λ a. absurd (at_place (k.writer n) a.0 a.1 a.2)) f)
          (k.places n room)

      held_still : (p : ℕ) (y : S) → held_at p me.0.held ≡ Some y → (z : S) × (held_at p w.held ≡ Some z)
      held_still p y h = held_other p ids olds news y rd.new_count (ap (held_at p) (sym rd.held) ∙ h)

      not_own : (p : ℕ) → slice_index s.words (p + 1) ≡ 0 → (x : S) → held_at p (held_pairs ids olds) ≡ Some x → ⊥
      not_own p free x h = let o = (old_values p x h).2 in omega (arith, o, free)

      -- a seat at a place is not this one
      other_place : (o j : ℕ) → IsAt s.views o j → IsAt (set s.views id w) o j
      other_place o j a = ⊎_elim
          (λ e. let same : me.0 ≡ a.0 = some-injective me.0 a.0 (sym at ∙ (ap (λ z. get_elem? s.views z) (sym e) ∙ a.1)) in
          absurd (cc (sym rd.place ∙ (ap (λ (u : View M S E). u.place) same ∙ a.2))))
          (λ ne. (a.0, set_else s.views id o w ne ∙ a.1, a.2))
          (cases_eq o id)

      pub joined : limit + passes < 2 ^ 64 → Kept r limit passes m record {
        words = set s.words 0 (n + 1);
        homes =
            set s.homes (r.parts + n) none;
        views = set s.views id w;
      }
      joined narrow = record {
        log = log';
        owner = k.owner;
        writer = but k.writer n id;
        session_state = k.session_state;
        legal = legal';
        strangers = (λ q past. own_else q k.log entry (λ e. let b =
            (kv.mine number (number_in number me.0.numbers rd.numbers)).1 in omega (arith, b, past, e)) ∙ k.strangers q past);
        wide = length-set s.words 0 (n + 1) ∙ k.wide;
        deep = length-set s.homes (r.parts + n) none ∙ k.deep;
        reserved = reserved_else r.parts limit (r.parts + n) s.homes none (λ e. omega (arith, e, room)) k.reserved;
        counted = (let l = length-append k.log (entry ∷ []) in omega (arith, l, long, word0, room));
        numbers = (let t = total_set (λ (u : View M S E). length u.numbers) s.views id me.0 w at in let o = k.numbers in
            omega (arith, t, o));
        room = (let t = total_set (λ (u : View M S E). u.room) s.views id me.0 w at in let o = k.room in
            omega (arith, t, o, word0, room));
        parts = (λ p lt. let apart : get_elem? (set s.homes (r.parts + n) none) p ≡ get_elem? s.homes p =
            set_else s.homes (r.parts + n) p none (λ e. omega arith) in ⊎_elim
            (λ home. inl (
              word p ∙ home.0,
              apart ∙ (home.1 ∙ ap (λ x. some (some (Part x))) (sym (value_out p (not_own p home.0)))),
            ))
            (λ out. inr (word p ∙ out.0, holds_set r limit passes m s.views id (k.owner p) p me.0 w at (held_still p) out.1))
            (k.parts p lt));
        places = (λ j lt. ⊎_elim
            (λ e. inr (inr (
              w,
              ap (λ o. get_elem? (set s.views id w) o) (ap (but k.writer n id) e ∙ but_same k.writer n id)
                  ∙ here s.views id me.0 w at,
              ap Some (sym e),
            )))
            (λ ne. let apart : get_elem? (set s.homes (r.parts + n) none) (r.parts + j) ≡ get_elem? s.homes (r.parts + j) =
            set_else s.homes (r.parts + n) (r.parts + j) none (λ e. ne (omega arith)) in ⊎_elim
            (λ b. inl (let l = length-append k.log (entry ∷ []) in let c = b.0 in omega (arith, l, c, long, ne), apart ∙ b.1))
            (λ f. inr (⊎_elim
            (λ g. inl (g.0, at_longer k.log (entry ∷ []) j g.0 g.1, apart ∙ g.2))
            (λ a. inr (subst (λ o. IsAt (set s.views id w) o j) (sym (but_else k.writer n id j ne))
            (other_place (k.writer j) j a)))
            f))
            (k.places j lt))
            (cases_eq j n));
        views = (λ j u g. ⊎_elim
            (λ t. subst (λ (z : ℕ × View M S E). Knows r limit passes m log' (set s.words 0 (n + 1)) k.owner
            (but k.writer n id) k.session_state z.0 z.1) (λ a. (sym t.0 a, t.1 a)) mine)
            (λ t. theirs j u t.0 (k.views j u t.1))
            (at_set s.views id j w u g));
      }

    -- the step past the limit
    module _ (past : limit ≤ n) where
      v' : View M S E
      v' = full me.0 k.log

      past_all : limit + passes < 2 ^ 64 → Kept r limit passes m record {
        words = set s.words 0 (n + 1);
        homes = s.homes;
        views = set s.views id (full me.0 k.log);
      }
      past_all narrow = let some_room : 0 < me.0.room = kv.ready rd.ready in
          let word0 : slice_index (set s.words 0 (n + 1)) 0 ≡ n + 1 = get_or-set_same s.words 0 (n + 1) 0 (let h = k.wide in
          omega (arith, h)) in
          reviewed r limit passes m s k id (n + 1) me.0 (full me.0 k.log) at refl refl refl (omega arith)
          (omega (arith, past)) (omega (arith, past, some_room)) record {
            machine = kv.machine;
            seen = prefix_self k.log;
            mine = (λ j h. let o = kv.mine j h in (o.0, o.1, refl));
            told = kv.told;
            held = (λ p x h. let o = kv.held p x h in
                (o.0, o.1, get_or-set_other s.words 0 (p + 1) (n + 1) 0 (λ e. omega arith) ∙ o.2, o.3));
            place = kv.place;
            ready = (λ h. absurd (cc h));
            over = (λ _ _. omega (arith, word0, past));
            idle = (λ h. absurd (cc (sym rd.numbers ∙ h)));
          }

    abbrev Goes : ℕ → Type 0
    Goes new = (w' : View M S E) × (a : Act (Slot S E)) × Valid s.homes me.1 a
        × Kept r limit passes m (stepped s 0 new id me.1 w' a) × Commits r (step (length s.homes) 0 1 0 none) me n (
          w',
          carried_after me.1 a,
        )

    small : limit + passes < 2 ^ 64 → (n + 1) % 2 ^ 64 ≡ n + 1
    small narrow = let some_room : 0 < me.0.room = kv.ready rd.ready in let t =
        total_set (λ (u : View M S E). u.room) s.views id me.0 (full me.0 k.log) at in let o = k.room in
        mod-eq_of_lt (omega (arith, t, o, some_room, narrow))

    between : IsPrefix me.0.seen k.log
    between = kv.seen

    pub commits_at : me.0.machine ≡ Some m → limit + passes < 2 ^ 64 → Goes (n + 1)
    commits_at known narrow =
        let same_limit : me.0.limit ≡ limit = (kv.machine m known).2 in
        let Yes : Me (Slot S E) (View M S E) → Type 0 = λ now. Lands r me n now in
        let No : Me (Slot S E) (View M S E) → Type 0 = λ now. Overshoots me now in
        ⊎_elim
        (λ (room : n < limit). let now : Me (Slot S E) (View M S E) = (w, (r.parts + n, Empty) ∷ me.1) in (
          w,
          takes (r.parts + n) Empty,
          empty room,
          joined room narrow,
          subst (λ b. MatchBool b (Yes now) (No now)) (sym (lt-ltb n me.0.limit (omega (arith, same_limit, room)))) (
            entry,
            log',
            kv.seen.0,
            held_pairs ids news,
            (λ i. (w, (sym (kv.machine m known).1 i + n, Empty) ∷ me.1)),
            ap (λ l. l ++ entry ∷ []) (sym kv.seen.1),
            rd.said,
            sym rd.numbers,
            ap (λ is. held_pairs is news) rd.touched,
            legal',
            own_rest number me.0.seen kv.seen.0 (ap (own number) kv.seen.1
                ∙ (kv.mine number (number_in number me.0.numbers rd.numbers)).2),
            (let l = length-append k.log (entry ∷ []) in let o = long room in omega (arith, l, o)),
          ),
        ))
        (λ (past : limit ≤ n). let now : Me (Slot S E) (View M S E) = (full me.0 k.log, me.1) in (
          full me.0 k.log,
          keeps,
          tt,
          past_all past narrow,
          subst (λ b. MatchBool b (Yes now) (No now)) (sym (le-ltb n me.0.limit (omega (arith, same_limit, past))))
              (k.log, refl, kv.seen, (λ j h. (kv.mine j h).2), let c = k.counted in omega (arith, c, past, same_limit)),
        ))
        (lt_or n limit)

module _ {M S E : Type 0} (mk : M → ℕ → Rules S E) (parts limit passes : ℕ) (m : M) where
  -- it may join the history, or finds the journal full
  pub commits : (slots id number : ℕ) (e : E) (ids : List ℕ) (olds news : List S) (me : Me (Slot S E) (View M S E)) →
      limit + passes < 2 ^ 64 → (mk m parts).parts ≡ parts
      → me.0.machine ≡ Some m → Ready (mk m parts) number e ids olds news me
      → Allows (Kept (mk m parts) limit passes m) slots id me 0 (λ n. (n + 1) % 2 ^ 64) (λ n after. (mc : M) →
      me.0.machine ≡ Some mc → Commits (mk mc me.0.parts) (step slots 0 1 0 none) me n after)
  commits slots id number e ids olds news me narrow count known rd s k deep at fits =
      let kv = k.views id me.0 at in
      let n : ℕ = slice_index s.words 0 in
      let r : Rules S E = mk m parts in
      let t = subst (λ new. (w : View M S E) × (a : Act (Slot S E)) × Valid s.homes me.1 a
      × Kept (mk m parts) limit passes m (stepped s 0 new id me.1 w a) × Commits (mk m parts) (step slots 0 1 0 none) me n
      (w, carried_after me.1 a))
      (sym (small (mk m parts) limit passes m s k id number e ids olds news me at rd narrow))
      (commits_at (mk m parts) limit passes m s k id number e ids olds news me at rd known narrow) in (
        t.0,
        t.1,
        t.2,
        t.3,
        λ mc e. let h = kv.machine mc e in
            subst (λ (z : M × ℕ). Commits (mk z.0 z.1) (step slots 0 1 0 none) me n (t.0, carried_after me.1 t.1))
            (λ i. (sym h.0 i, sym (h.1 ∙ count) i)) t.4,
      )
