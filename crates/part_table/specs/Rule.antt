-- The rule of the table.
-- Word 0 counts the journal's steps; the word p + 1 is 1 where the part p is out, and else 0.
-- The slot p is the part's, the slot parts + j the journal's place j, and the last one has the two lists that closing fills.
use Rattle.std.specs.Prelude.{◌≡◌, ◌≢◌, ℕ, zero, suc, ◌+◌, ◌-◌, ◌<◌, ◌≤◌, ◌==◌, ◌⊎◌, ◌||◌, Bool, true, false, min, List, [], ◌∷◌, ◌++◌, length, slice_index, Some, None, MatchBool, ltb, Vec}
use Rattle.std.proofs.Common.{Global}
use mathlib.Core.List.{IsPrefix}
use mathlib.Core.Option.{some, none}
use mathlib.Core.Option as maybe
use lib.ListN.{get_elem?}
use Rattle.atomic_table.specs.Table.{State, Me, Step}
use Rattle.part_table.specs.declared.rule.Entry.{Entry}
use Rattle.part_table.specs.declared.rule.Slot.{Slot}
use Rattle.part_table.specs.declared.rule.Slot.TheVariants.{Part, Place, Ask, Lists, Empty}
use Rattle.part_table.specs.declared.rule.View.{View}
use Rattle.part_table.specs.History.{IsLegal, Rules, held_at, held_pairs, own, replay}

-- the n numbers from k on
abbrev pub numbers_from : ℕ → ℕ → List ℕ
numbers_from k zero = []
numbers_from k (suc n) = k ∷ numbers_from (k + 1) n

abbrev pub first_view : {M S E : Type 0} → M → ℕ → ℕ → ℕ → View M S E
first_view m parts limit n =
    record {
      machine = Some m;
      parts = parts;
      limit = limit;
      numbers = numbers_from 0 n;
      room = n;
      seen = [];
      told = [];
      held = [];
      place = None;
      said = None;
      ready = false;
    }

-- the view of the first seat, once the passes below i have seats of their own
abbrev pub dealt : {M S E : Type 0} → M → ℕ → ℕ → ℕ → ℕ → View M S E
dealt m parts limit n i =
    record {
      machine = Some m;
      parts = parts;
      limit = limit;
      numbers = numbers_from i (n - i);
      room = n - i;
      seen = [];
      told =
          [];
      held = [];
      place = None;
      said = None;
      ready = false;
    }

-- the sum of f over all views
abbrev pub sum_of_views : {A : Type 0} → (A → ℕ) → List A → ℕ
sum_of_views f [] = 0
sum_of_views f (v ∷ vs) = f v + sum_of_views f vs

abbrev pub is_in : ℕ → List ℕ → Bool
is_in m [] = false
is_in m (k ∷ ks) = (k == m) || is_in m ks

-- the seat id holds the part p
abbrev pub Holds : {M S E : Type 0} → List (View M S E) → ℕ → ℕ → Type 0
Holds {M} {S} {E} views id p = (v : View M S E) × (x : S) × (get_elem? views id ≡ some v) × (held_at p v.held ≡ Some x)

-- the seat id is at the journal's place j
abbrev pub IsAt : {M S E : Type 0} → List (View M S E) → ℕ → ℕ → Type 0
IsAt {M} {S} {E} views id j = (v : View M S E) × (get_elem? views id ≡ some v) × (v.place ≡ Some j)

-- the two lists are empty, and have room for all states and all events
pub record HasRoom {S E : Type 0} (parts limit : ℕ) (xs : Vec S Global) (es : Vec E Global) : Type 0 where
  pub no_states : xs.items ≡ []
  pub states : parts ≤ xs.cap
  pub no_events : es.items ≡ []
  pub events : limit ≤ es.cap

-- such lists lie behind the journal
abbrev pub Reserved : {S E : Type 0} → ℕ → ℕ → List (maybe.Option (Slot S E)) → Type 0
Reserved {S} {E} parts limit homes =
    (xs : Vec S Global) × (es : Vec E Global) × (get_elem? homes (parts + limit) ≡ some (some (Lists xs es)))
    × HasRoom parts limit xs es

module _ {M S E : Type 0} (r : Rules S E) (limit passes : ℕ) (m : M) (log : List (Entry S E)) where
  -- the part p lies at home with the history's value, or a seat has it
  abbrev pub InPlace : List ℕ → List (maybe.Option (Slot S E)) → List (View M S E) → (ℕ → ℕ) → ℕ → Type 0
  InPlace words homes views owner p =
      ((slice_index words (p + 1) ≡ 0) × (get_elem? homes p ≡ some (some (Part (replay r log p)))))
      ⊎ ((slice_index words (p + 1) ≡ 1) × Holds views (owner p) p)

  -- the place j of the journal is empty, or has the event of the history, or a seat is at it
  abbrev pub Written : List (maybe.Option (Slot S E)) → List (View M S E) → (ℕ → ℕ) → ℕ → Type 0
  Written homes views writer j =
      ((length log ≤ j) × (get_elem? homes (r.parts + j) ≡ some (some Empty)))
      ⊎ (((e : Entry S E) × (get_elem? log j ≡ some e) × (get_elem? homes (r.parts + j) ≡ some (some (Place e.event))))
      ⊎ IsAt views (writer j) j)

  -- what the seat id knows is so
  pub record Knows (words : List ℕ) (owner writer session_state : ℕ → ℕ) (id : ℕ) (v : View M S E) : Type 0 where
    pub machine : (q : M) → v.machine ≡ Some q → (q ≡ m) × (v.parts ≡ r.parts) × (v.limit ≡ limit)
    pub seen : IsPrefix v.seen log
    pub mine : (k : ℕ) → is_in k v.numbers ≡ true → (session_state k ≡ id) × (k < passes) × (own k log ≡ own k v.seen)
    pub told : (i k : ℕ) (xs : List (Entry S E)) → get_elem? v.told i ≡ some (k, xs) → (is_in k v.numbers ≡ true)
        × IsPrefix xs log × (own k log ≡ own k xs)
    pub held : (p : ℕ) (x : S) → held_at p v.held ≡ Some x → (owner p ≡ id) × (p < r.parts) × (slice_index words (p + 1) ≡ 1)
        × (x ≡ replay r log p)
    pub place : (j : ℕ) → v.place ≡ Some j → (writer j ≡ id) × ((e : Entry S E) × (get_elem? log j ≡ some e)
        × (v.said ≡ Some (e.event, e.news)))
    pub ready : v.ready ≡ true → 0 < v.room
    pub over : v.numbers ≢ [] → v.room ≡ 0 → limit ≤ slice_index words 0
    pub idle : v.numbers ≡ [] → (v.held ≡ []) × (v.place ≡ None) × (v.room ≡ 0)

pub record Kept {M S E : Type 0} (r : Rules S E) (limit passes : ℕ) (m : M) (s : State (Slot S E) (View M S E)) : Type 0 where
  pub log : List (Entry S E)
  pub owner : ℕ → ℕ
  pub writer : ℕ → ℕ
  pub session_state : ℕ → ℕ
  pub legal : IsLegal r log
  pub strangers : (k : ℕ) → passes ≤ k → own k log ≡ []
  pub wide : length s.words ≡ r.parts + 1
  pub deep : length s.homes ≡ r.parts + limit + 1
  pub reserved : Reserved r.parts limit s.homes
  pub counted : length log ≡ min (slice_index s.words 0) limit
  pub numbers : sum_of_views (λ (v : View M S E). length v.numbers) s.views ≡ passes
  pub room : (slice_index s.words 0 - limit) + sum_of_views (λ (v : View M S E). v.room) s.views ≡ passes
  pub parts : (p : ℕ) → p < r.parts → InPlace r limit passes m log s.words s.homes s.views owner p
  pub places : (j : ℕ) → j < limit → Written r limit passes m log s.homes s.views writer j
  pub views : (id : ℕ) (v : View M S E) → get_elem? s.views id ≡ some v →
      Knows r limit passes m log s.words owner writer session_state id v

-- a view that holds one part more
abbrev pub holding : {M S E : Type 0} → View M S E → ℕ → S → View M S E
holding v p x = record v { held = v.held ++ (p, x) ∷ [] }

abbrev pub without_first_held : {M S E : Type 0} → View M S E → List (ℕ × S) → View M S E
without_first_held v hs = record v { held = hs }

abbrev pub rest_of : {A : Type 0} → List A → List A
rest_of [] = []
rest_of (x ∷ xs) = xs

abbrev pub first_number_of : List ℕ → List ℕ
first_number_of [] = []
first_number_of (k ∷ ks) = k ∷ []

-- what the steps tell
module _ {M S E : Type 0} where
  -- the part of the word was at home, and is now with the seat; or it was out
  abbrev pub Takes : Step (Slot S E) → Me (Slot S E) (View M S E) → ℕ → Me (Slot S E) (View M S E) → Type 0
  Takes s m found n = MatchBool (found == 0) ((x : S) × (n ≡ (holding m.0 (s.word - 1) x, (s.word - 1, Part x) ∷ m.1))) (n ≡ m)

  -- the part held first goes home
  abbrev pub Gives : Step (Slot S E) → Me (Slot S E) (View M S E) → ℕ → Me (Slot S E) (View M S E) → Type 0
  Gives s m found n = n ≡ (without_first_held m.0 (rest_of m.0.held), rest_of m.1)

  abbrev pub full : View M S E → List (Entry S E) → View M S E
  full v w = record v { seen = w; room = v.room - 1; ready = false }

  abbrev pub committed : View M S E → List (Entry S E) → List (ℕ × S) → ℕ → View M S E
  committed v w hs j = record v { seen = w; held = hs; place = Some j; ready = false }

  -- w has no more of the seat's own entries than it has seen
  abbrev pub Quiet : View M S E → List (Entry S E) → Type 0
  Quiet v w = (k : ℕ) → is_in k v.numbers ≡ true → own k w ≡ own k v.seen

  -- an event joins the history, and the seat is at its place
  abbrev pub Lands : Rules S E → Me (Slot S E) (View M S E) → ℕ → Me (Slot S E) (View M S E) → Type 0
  Lands r m found n = (e : Entry S E) × (w : List (Entry S E)) × (between : List (Entry S E)) × (hs : List (ℕ × S))
      × (n ≡ (committed m.0 w hs found, (m.0.parts + found, Empty) ∷ m.1))
      × (w ≡ (m.0.seen ++ between) ++ e ∷ []) × (m.0.said ≡ Some (e.event, e.news)) × (e.by ∷ [] ≡ m.0.numbers)
      × (hs ≡ held_pairs (r.touches e.event) e.news)
      × IsLegal r w × (own e.by between ≡ []) × (length w ≡ found + 1)

  -- the journal was full
  abbrev pub Overshoots : Me (Slot S E) (View M S E) → Me (Slot S E) (View M S E) → Type 0
  Overshoots m n = (w : List (Entry S E)) × (n ≡ (full m.0 w, m.1)) × IsPrefix m.0.seen w × Quiet m.0 w × (length w ≡ m.0.limit)

  abbrev pub Commits : Rules S E → Step (Slot S E) → Me (Slot S E) (View M S E) → ℕ → Me (Slot S E) (View M S E) → Type 0
  Commits r s m found n = MatchBool (ltb found m.0.limit) (Lands r m found n) (Overshoots m n)

  abbrev pub saw : View M S E → List (Entry S E) → View M S E
  saw v w = record v { seen = w }

  abbrev pub looked : View M S E → List (Entry S E) → E × List S → View M S E
  looked v w e = record v { seen = w; said = Some e; ready = true }

  -- a step may follow, with the event that was announced; or the journal was full
  abbrev pub Looks : Step (Slot S E) → Me (Slot S E) (View M S E) → ℕ → Me (Slot S E) (View M S E) → Type 0
  Looks s m found n = (e : E) (xs : Vec S Global) → s.said ≡ some (Ask e xs)
      → (w : List (Entry S E)) × IsPrefix m.0.seen w × Quiet m.0 w
      × MatchBool (ltb found m.0.limit) (n ≡ (looked m.0 w (e, xs.items), m.1)) ((n ≡ (saw m.0 w, m.1))
      × (length w ≡ m.0.limit))

  -- the history so far was seen, and what is held is its replay
  abbrev pub Sees : Rules S E → Step (Slot S E) → Me (Slot S E) (View M S E) → ℕ → Me (Slot S E) (View M S E) → Type 0
  Sees r s m found n = (w : List (Entry S E)) × (n ≡ (saw m.0 w, m.1)) × IsPrefix m.0.seen w × Quiet m.0 w × IsLegal r w
      × ((p : ℕ) (x : S) → held_at p m.0.held ≡ Some x → x ≡ replay r w p)

  abbrev pub placed : View M S E → View M S E
  placed v = record v { place = None }

  -- the event lies at its place
  abbrev pub Places : Step (Slot S E) → Me (Slot S E) (View M S E) → ℕ → Me (Slot S E) (View M S E) → Type 0
  Places s m found n = n ≡ (placed m.0, rest_of m.1)

-- the longer of two beginnings of one list
abbrev pub longer : {A : Type 0} → List A → List A → List A
longer [] ys = ys
longer (x ∷ xs) [] = x ∷ xs
longer (x ∷ xs) (y ∷ ys) = x ∷ longer xs ys

-- each number, with what was seen
abbrev pub tells : {A : Type 0} → List ℕ → A → List (ℕ × A)
tells [] w = []
tells (k ∷ ks) w = (k, w) ∷ tells ks w

module _ {M S E : Type 0} where
  -- what is known of each pass that a seat stands for
  abbrev pub recall : View M S E → List (ℕ × List (Entry S E))
  recall v = tells v.numbers v.seen ++ v.told

  -- two seats in one
  abbrev pub both : View M S E → View M S E → View M S E
  both v w = record v {
    numbers = v.numbers ++ w.numbers;
    room = v.room + w.room;
    seen = longer v.seen w.seen;
    told =
        recall v ++ recall w;
  }

  abbrev pub spent : View M S E
  spent = record {
    machine = None;
    parts = 0;
    limit = 0;
    numbers = [];
    room = 0;
    seen = [];
    told = [];
    held = [];
    place =
        None;
    said = None;
    ready = false;
  }

  -- the first of the numbers, and the others
  abbrev pub head_view : View M S E → View M S E
  head_view v = record v { numbers = first_number_of v.numbers; room = 1 }

  abbrev pub tail_view : View M S E → View M S E
  tail_view v = record v { numbers = rest_of v.numbers; room = v.room - 1 }

  -- a pass that the seat stands for, with what was seen of it
  abbrev pub Recalls : View M S E → ℕ → List (Entry S E) → Type 0
  Recalls v k xs = (i : ℕ) × (get_elem? (recall v) i ≡ some (k, xs))
