-- Plan lines keep what is known of a draft.
use Rattle.std.proofs.Common.{◌≡◌, ℕ, ◌+◌, ◌<◌, Bool, true, false, zero, suc, List, [], ◌∷◌, ◌++◌, length, refl, ap, ◌∙◌, subst, arith, length-append, append-nil, append_assoc, inl, inr}
use Rattle.std.specs.Prelude.{◌&&◌, ◌||◌, not, ◌==◌, filter, bytes_eq, slice_get, option_to_list, Some, None, ◌⊎◌}
use Rattle.std.specs.List.{list_any}
use Rattle.std.specs.List.{position_or_len}
use Rattle.std.proofs.lemmas.Bool.{and_parts, and_from, or_left, eq-eqb}
use Rattle.std.proofs.lemmas.List.Folds.{list_any-append}
use Rattle.std.proofs.lemmas.List.Elements.{filter-append, filter_map-append}
use Rattle.ignite_types.specs.Good.{can_stop, has_cache_line, is_started, is_within, starting, starts_cache, stops}
use Rattle.ignite_types.specs.declared.names.NodeId.{NodeId}
use Rattle.ignite_types.specs.declared.scenario.Cache.{Cache}
use Rattle.ignite_types.specs.declared.scenario.PlanStep.{PlanStep}
use Rattle.ignite_types.specs.declared.scenario.Step.{Step}
use Rattle.ignite_types.specs.declared.scenario.Step.TheVariants as step
use Rattle.scen_text.specs.Drafts.{nodes_named}
use Rattle.scen_text.specs.Known.{cache_place, is_first, is_stopped, names_data, rises}
use Rattle.scen_text.proofs.GoodKept.{PlanOf, stop_fits, stops_fit, steps_of, started_of, started_at}
use Rattle.scen_text.proofs.Cuts.{place_some_of}
use Rattle.scen_text.proofs.GoodLists.{pushed_all, pushed_moment, pushed_count, none_of}

-- one more step

steps-pushed : (plan : List PlanStep) (x : PlanStep) → steps_of (plan ++ x ∷ []) ≡ steps_of plan ++ x.step ∷ []
steps-pushed [] x = refl
steps-pushed (p ∷ plan) x = ap (λ (l : List Step). p.step ∷ l) (steps-pushed plan x)

stops-pushed : (caches : List Cache) (before : List Step) (plan : List PlanStep) (x : PlanStep) →
    stops_fit caches before plan ≡ true
    → stop_fits caches (before ++ steps_of plan) x.step ≡ true → stops_fit caches before (plan ++ x ∷ []) ≡ true
stops-pushed caches before [] x h s =
    and_from (stop_fits caches before x.step) true (let e : before ++ [] ≡ before = append-nil before in rw e at s) refl
stops-pushed caches before (p ∷ plan) x h s =
    let parts = and_parts (stop_fits caches before p.step) (stops_fit caches (before ++ p.step ∷ []) plan) h in
    and_from (stop_fits caches before p.step) (stops_fit caches (before ++ p.step ∷ []) (plan ++ x ∷ [])) parts.0
    (stops-pushed caches (before ++ p.step ∷ []) plan x parts.1
    (let e : (before ++ p.step ∷ []) ++ steps_of plan ≡ before ++ (p.step ∷ steps_of plan) =
    append_assoc before (p.step ∷ []) (steps_of plan) in
    rw e s))

starts-kept : (n : ℕ) (plan : List PlanStep) (x : PlanStep) → list_any (starts_cache n) (steps_of plan) ≡ true →
    list_any (starts_cache n) (steps_of (plan ++ x ∷ [])) ≡ true
starts-kept n plan x h = rw (steps-pushed plan x, list_any-append (starts_cache n) (steps_of plan) (x.step ∷ []))
    (or_left (list_any (starts_cache n) (steps_of plan)) _ h)

started-pushed : (plan : List PlanStep) (x : PlanStep) → started_of (plan ++ x ∷ []) ≡ started_of plan ++ started_of (x ∷ [])
started-pushed plan x = filter_map-append (λ planned. starting planned.step) plan (x ∷ [])

-- a step that starts no cache
pub plan-pushed : (named : List NodeId) (caches : List Cache) (plan : List PlanStep) (moment : ℕ) (s : Step) →
    PlanOf named caches plan → length plan < 64
    → is_within 1 1000000 moment ≡ true → rises plan moment ≡ true → nodes_named named s ≡ true →
    stop_fits caches (steps_of plan) s ≡ true → starting s ≡ None
    → PlanOf named caches (plan ++ record { moment = moment; step = s } ∷ [])
plan-pushed named caches plan moment s h few within rising nodes stop starts_none =
    let x : PlanStep = record { moment = moment; step = s } in
    let same : started_of (plan ++ x ∷ []) ≡ started_of plan = started-pushed plan x
    ∙ (rw starts_none (append-nil (started_of plan))) in
    record {
      few = omega (arith, length-append plan (x ∷ []));
      moments = pushed_all (λ planned. is_within 1 1000000 planned.moment) plan x h.moments within;
      rising = pushed_moment plan x h.rising rising;
      nodes = pushed_all (λ planned. nodes_named named planned.step) plan x h.nodes nodes;
      stops = stops-pushed caches [] plan x h.stops stop;
      numbers = rw same h.numbers;
      counted = rw same h.counted;
      total = rw same h.total;
      begun = λ n at. starts-kept n plan x (h.begun n at);
    }

-- one more cache, which a step starts

at_pushed : (caches : List Cache) (c : Cache) (n : ℕ) → started_at (caches ++ c ∷ []) n ≡ true → (started_at caches n ≡ true)
    ⊎ (n ≡ length caches)
at_pushed [] c zero h = inr refl
at_pushed [] c (suc n) h = cc
at_pushed (x ∷ caches) c zero h = inl h
at_pushed (x ∷ caches) c (suc n) h =
    elim (at_pushed caches c n h) as (λ r. (started_at caches n ≡ true) ⊎ (suc n ≡ suc (length caches))) [
      | inl s ↦ inl s
      | inr e ↦ inr (ap suc e)
    ]

abbrev line_at : List Cache → ℕ → Bool
line_at caches n = list_any has_cache_line (option_to_list (slice_get caches n))

line_kept : (caches : List Cache) (c : Cache) (n : ℕ) → line_at caches n ≡ true → line_at (caches ++ c ∷ []) n ≡ true
line_kept [] c n h = cc
line_kept (x ∷ caches) c zero h = h
line_kept (x ∷ caches) c (suc n) h = line_kept caches c n h

grown : (a b more s t : Bool) → (b ≡ true → more ≡ true) → ((a && (b || s)) && t) ≡ true → ((a && (more || s)) && t) ≡ true
grown a true more s t f h = rw (f refl) h
grown a false false s t f h = h
grown a false true s t f h =
    let outer = and_parts (a && s) t h in
    let inner = and_parts a s outer.0 in
    rw (inner.0, outer.1) refl

stop_kept : (caches : List Cache) (c : Cache) (before : List Step) (s : Step) → stop_fits caches before s ≡ true →
    stop_fits (caches ++ c ∷ []) before s ≡ true
stop_kept caches c before (step.Stop n) h =
    grown (not (n == 0)) (line_at caches n) (line_at (caches ++ c ∷ []) n) (list_any (starts_cache n) before)
    (not (list_any (stops n) before)) (line_kept caches c n) h
stop_kept caches c before (step.Join m) h = refl
stop_kept caches c before (step.Lose m) h = refl
stop_kept caches c before (step.Hold m n) h = refl
stop_kept caches c before (step.Release m n) h = refl
stop_kept caches c before (step.Start n) h = refl

stops_kept : (caches : List Cache) (c : Cache) (before : List Step) (plan : List PlanStep) →
    stops_fit caches before plan ≡ true → stops_fit (caches ++ c ∷ []) before plan ≡ true
stops_kept caches c before [] h = refl
stops_kept caches c before (p ∷ plan) h =
    let parts = and_parts (stop_fits caches before p.step) (stops_fit caches (before ++ p.step ∷ []) plan) h in
    and_from (stop_fits (caches ++ c ∷ []) before p.step) (stops_fit (caches ++ c ∷ []) (before ++ p.step ∷ []) plan)
    (stop_kept caches c before p.step parts.0) (stops_kept caches c (before ++ p.step ∷ []) plan parts.1)

same_number : (n : ℕ) → (n == n) ≡ true
same_number n = eq-eqb n n refl

pub plan-started : (named : List NodeId) (caches : List Cache) (c : Cache) (plan : List PlanStep) (moment : ℕ) →
    PlanOf named caches plan → length plan < 64
    → is_within 1 1000000 moment ≡ true → rises plan moment ≡ true → c.first ≡ false → c.«data» ≡ false
    → PlanOf named (caches ++ c ∷ []) (plan ++ record { moment = moment; step = step.Start (length caches) } ∷ [])
plan-started named caches c plan moment h few within rising late plain =
    let x : PlanStep = record { moment = moment; step = step.Start (length caches) } in
    let firsts : filter (λ (k : Cache). k.first) (caches ++ c ∷ []) ≡ filter (λ (k : Cache). k.first) caches =
    filter-append (λ (k : Cache). k.first) caches (c ∷ []) ∙ (rw late (append-nil (filter (λ (k : Cache). k.first) caches))) in
    let lasts : filter is_started (caches ++ c ∷ []) ≡ filter is_started caches ++ c ∷ [] =
    filter-append is_started caches (c ∷ []) ∙ (rw (late, plain) refl) in
    let numbers : started_of (plan ++ x ∷ []) ≡ started_of plan ++ length caches ∷ [] = started-pushed plan x in
    record {
      few = omega (arith, length-append plan (x ∷ []));
      moments = pushed_all (λ planned. is_within 1 1000000 planned.moment) plan x h.moments within;
      rising = pushed_moment plan x h.rising rising;
      nodes = pushed_all (λ planned. nodes_named named planned.step) plan x h.nodes refl;
      stops = stops-pushed (caches ++ c ∷ []) [] plan x (stops_kept caches c [] plan h.stops) refl;
      numbers = rw (numbers, firsts) (pushed_count _ (started_of plan) (length caches) h.numbers h.total);
      counted = rw (numbers, lasts) (omega (
        arith,
        length-append (filter is_started caches) (c ∷ []),
        length-append (started_of plan) (length caches ∷ []),
        h.counted,
      ));
      total = rw (numbers, firsts)
          (omega (arith, length-append caches (c ∷ []), length-append (started_of plan) (length caches ∷ []), h.total));
      begun = λ n at. elim (at_pushed caches c n at) as (λ r. list_any (starts_cache n) (steps_of (plan ++ x ∷ [])) ≡ true) [
        | inl s ↦ starts-kept n plan x (h.begun n s)
        | inr e ↦ rw (
          e,
          steps-pushed plan x,
          list_any-append (starts_cache (length caches)) (steps_of plan) (x.step ∷ []),
          same_number (length caches),
        ) (right_true (list_any (starts_cache (length caches)) (steps_of plan)))
      ];
    }
  where
    right_true : (b : Bool) → (b || true) ≡ true
    right_true true = refl
    right_true false = refl

-- a stop

pub none_at : (q : Cache → Bool) (xs : List Cache) (n : ℕ) (c : Cache) → list_any q xs ≡ false → slice_get xs n ≡ Some c →
    q c ≡ false
none_at q [] n c h e = cc
none_at q (x ∷ xs) zero c h e = let same : x ≡ c = cc in
    subst (λ (k : Cache). q k ≡ false) same (none_of (q x) (list_any q xs) h).0
none_at q (x ∷ xs) (suc n) c h e = none_at q xs n c (none_of (q x) (list_any q xs) h).1 e

pub record At (q : Cache → Bool) (xs : List Cache) (n : ℕ) : Type 0 where
  pub cache : Cache
  pub there : slice_get xs n ≡ Some cache
  pub passes : q cache ≡ true

first_at : (q : Cache → Bool) (xs : List Cache) → position_or_len q xs < length xs → At q xs (position_or_len q xs)
first_at q [] h = absurd (omega arith)
first_at q (x ∷ xs) h =
    elim (q x) as (λ r. q x ≡ r → At q (x ∷ xs) (position_or_len q (x ∷ xs))) [
      | true ↦ λ e. rw e (record { cache = x; there = refl; passes = e })
      | false ↦ λ e. rw e (let h2 : 1 + position_or_len q xs < length (x ∷ xs) = rw e at h in
          later (first_at q xs (omega arith)))
    ] refl
  where
    later : At q xs (position_or_len q xs) → At q (x ∷ xs) (1 + position_or_len q xs)
    later a = let P : ℕ → Type 0 = At q (x ∷ xs) in
        let one : suc (position_or_len q xs) ≡ 1 + position_or_len q xs = omega arith in
        subst P one (record { cache = a.cache; there = a.there; passes = a.passes })

pub cache_at : (caches : List Cache) (name : List ℕ) (n : ℕ) → cache_place caches name ≡ Some n →
    At (λ cache. bytes_eq cache.name name) caches n
cache_at caches name n e =
    let place = place_some_of (λ cache. bytes_eq cache.name name) caches n e in
    let P : ℕ → Type 0 = At (λ cache. bytes_eq cache.name name) caches in
    subst P place.1 (first_at (λ cache. bytes_eq cache.name name) caches place.0)

is_stopped-steps : (plan : List PlanStep) (n : ℕ) → is_stopped plan n ≡ list_any (stops n) (steps_of plan)
is_stopped-steps [] n = refl
is_stopped-steps (p ∷ plan) n = ap (λ (b : Bool). stops n p.step || b) (is_stopped-steps plan n)

pub stop-can : (named : List NodeId) (caches : List Cache) (plan : List PlanStep) (name : List ℕ) (n : ℕ) →
    PlanOf named caches plan → names_data caches name ≡ false
    → is_first (cache_place caches name) ≡ false → cache_place caches name ≡ Some n → is_stopped plan n ≡ false →
    can_stop caches (steps_of plan) n ≡ true
stop-can named caches plan name n h plain later e new =
    let at = cache_at caches name n e in
    let zero : (n == 0) ≡ false = rw e at later in
    let fresh : list_any (stops n) (steps_of plan) ≡ false = rw (is_stopped-steps plan n) at new in
    let ones : (at.cache.«data» && bytes_eq at.cache.name name) ≡ false =
    none_at (λ c. c.«data» && bytes_eq c.name name) caches n at.cache plain at.there in
    let no_data : at.cache.«data» ≡ false = left_false at.cache.«data» (bytes_eq at.cache.name name) at.passes ones in
    rw (zero, fresh) (either (line_at caches n) (list_any (starts_cache n) (steps_of plan)) at.cache.first
    (λ f. let a = at.there in rw (a, f, no_data) refl)
    (λ f. h.begun n (let a = at.there in rw (a, f, no_data) refl)))
  where
    left_false : (a b : Bool) → b ≡ true → (a && b) ≡ false → a ≡ false
    left_false false b t h = refl
    left_false true true t h = cc
    left_false true false t h = cc

    either : (a b f : Bool) → (f ≡ true → a ≡ true) → (f ≡ false → b ≡ true) → ((true && (a || b)) && true) ≡ true
    either a b true l r = rw (l refl) refl
    either true b false l r = refl
    either false b false l r = rw (r refl) refl
