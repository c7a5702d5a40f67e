-- Lines of caches keep what is known of a draft.
use Rattle.std.proofs.Common.{◌≡◌, ℕ, ◌+◌, ◌<◌, ◌≤◌, Bool, true, false, zero, suc, List, [], ◌∷◌, ◌++◌, length, refl, ap, ◌∙◌, arith, length-append, inl, inr, lit≤}
use Rattle.std.specs.Prelude.{◌&&◌, ◌||◌, not, ◌==◌, nat_le, nat_lt, filter, Option, Some, None, Ok, if◌then◌else◌, ◌⊎◌}
use Rattle.std.specs.List.{list_all}
use Rattle.std.proofs.lemmas.Bool.{cond_both, and_parts, not-true, ltb-true, leb-true}
use Rattle.std.proofs.lemmas.List.Sums.{sum_by-append}
use Rattle.ignite_types.specs.Good.{good_cache, is_name, is_started, is_within, same_cache_name}
use Rattle.ignite_types.specs.declared.names.NodeId.{NodeId}
use Rattle.ignite_types.specs.declared.scenario.Cache.{Cache}
use Rattle.scen_text.specs.declared.cause.Cause.TheVariants.{Limit}
use Rattle.scen_text.specs.declared.cause.What.{What}
use Rattle.scen_text.specs.declared.cause.What.TheVariants as what
use Rattle.scen_text.specs.declared.draft.Draft.{Draft}
use Rattle.scen_text.specs.declared.limits.Settings.{Settings}
use Rattle.scen_text.specs.declared.line.CacheWords.{CacheWords}
use Rattle.scen_text.specs.declared.line.Setting.{Setting}
use Rattle.scen_text.specs.declared.line.Setting.TheVariants as setting
use Rattle.scen_text.specs.declared.place.Place.{Place}
use Rattle.scen_text.specs.declared.place.Place.TheVariants as place
use Rattle.scen_text.specs.Causes.{◌>>=◌, rule, fit}
use Rattle.scen_text.specs.Drafts.{total_with}
use Rattle.scen_text.specs.Known.{has_cache}
use Rattle.scen_text.specs.Limits.{set, setting_fits, default_cache, cache_fits, cache_of}
use Rattle.scen_text.specs.Places.{is_start_place, may_follow, rank, stands_once}
use Rattle.scen_text.proofs.GoodKept.{Fit, NoCaches, SecondCaches, is_kind, CachesOf, PlanOf, SessionsOf, started_at}
use Rattle.scen_text.proofs.GoodLines.{GoodName}
use Rattle.scen_text.proofs.GoodLists.{pushed_all, pushed_distinct, pushed_order, may_precede}
use Rattle.scen_text.proofs.Holds.{Holds, rule_then}

-- a cache that its words name well
pub cache_of-good : (w : What) (first is_data : Bool) (words : CacheWords) → GoodName words.name
    → Holds (λ c. (good_cache c ≡ true) × (c.first ≡ first) × (c.«data» ≡ is_data)) (cache_of w first is_data words)
cache_of-good w first is_data words g = named words.name g
  where
    fits : (called : List ℕ) → is_name called ≡ true → cache_fits words ≡ true
        → good_cache (record {
          name = called;
          parts = words.parts;
          backups = words.backups;
          near = words.near;
          first = first;
          «data» = is_data;
        }) ≡ true
    fits called n f =
        let outer = and_parts (is_within 1 1024 words.parts && nat_le words.backups 3) (nat_le words.near 10000) f in
        let inner = and_parts (is_within 1 1024 words.parts) (nat_le words.backups 3) outer.0 in
        rw (n, inner.0, inner.1, outer.1) refl

    named : (o : Option (List ℕ)) → GoodName o → Holds (λ c. (good_cache c ≡ true) × (c.first ≡ first) × (c.«data» ≡ is_data))
        (fit o what.Name >>= λ called. (rule (cache_fits words) (Limit w)
        >>= λ u. Ok (record {
          name = called;
          parts = words.parts;
          backups = words.backups;
          near = words.near;
          first = first;
          «data» = is_data;
        })))
    named None n = tt
    named (Some called) n = rule_then (λ c. (good_cache c ≡ true) × (c.first ≡ first) × (c.«data» ≡ is_data))
        (cache_fits words) (Limit w) _ (λ f. (fits called n f, refl, refl))

-- the places of lines

pub stands_below : (last next : Place) → may_follow last next ≡ true → rank last ≤ rank next
stands_below last next h = leb-true _ _ (and_parts (nat_le 1 (rank last)) (nat_le (rank last) (rank next)) h).1

pub once_below : (last next : Place) → stands_once last next ≡ true → rank last < rank next
once_below last next h = ltb-true _ _ (and_parts (nat_le 1 (rank last)) (nat_lt (rank last) (rank next)) h).1

pub start_rank : (p : Place) → is_start_place p ≡ true → rank p ≡ 0
start_rank place.Start h = refl
start_rank _ h = cc

-- no cache of a list without started ones is started
filter_all : (xs : List Cache) → list_all (λ c. c.first) xs ≡ true → length (filter (λ c. c.first) xs) ≡ length xs
filter_all [] h = refl
filter_all (x ∷ xs) h =
    let parts = and_parts x.first (list_all (λ c. c.first) xs) h in
    rw parts.0 (ap suc (filter_all xs parts.1))

filter_none : (xs : List Cache) → list_all (λ c. c.first) xs ≡ true → length (filter is_started xs) ≡ 0
filter_none [] h = refl
filter_none (x ∷ xs) h =
    let parts = and_parts x.first (list_all (λ c. c.first) xs) h in
    rw parts.0 (filter_none xs parts.1)

started_none : (xs : List Cache) (n : ℕ) → list_all (λ c. c.first) xs ≡ true → started_at xs n ≡ false
started_none [] n h = refl
started_none (x ∷ xs) zero h = rw ((and_parts x.first (list_all (λ c. c.first) xs) h).0) refl
started_none (x ∷ xs) (suc n) h = started_none xs n (and_parts x.first (list_all (λ c. c.first) xs) h).1

-- nothing is planned on caches that all run from the start
pub no_plan : (named : List NodeId) (caches : List Cache) → list_all (λ c. c.first) caches ≡ true → PlanOf named caches []
no_plan named caches h = record {
  few = lit≤ tt;
  moments = refl;
  rising = refl;
  nodes = refl;
  stops = refl;
  numbers = refl;
  counted = filter_none caches h;
  total = omega (arith, filter_all caches h);
  begun = λ n s. absurd (let e = started_none caches n h in cc);
}

pub no_sessions : (named : List NodeId) (caches : List Cache) → SessionsOf named caches []
no_sessions named caches = record { few = lit≤ tt; each = refl; distinct = refl }

-- the lines that change the caches

fit-set : (s : Settings) (what : Setting) (n : ℕ) → Fit s → setting_fits what n ≡ true → Fit (set s what n)
fit-set s setting.Parts n h f = record { parts = f; backups = h.backups; near = h.near }
fit-set s setting.Backups n h f = record { parts = h.parts; backups = f; near = h.near }
fit-set s setting.Near n h f = record { parts = h.parts; backups = h.backups; near = f }

-- a setting of format 1
pub caches-setting : (d : Draft) (what : Setting) (n : ℕ) → CachesOf d.format d.settings d.caches d.partitions →
    (d.format == 2) ≡ false → setting_fits what n ≡ true
    → CachesOf d.format (set d.settings what n) (default_cache (set d.settings what n) ∷ []) d.partitions
caches-setting d what n (inl h) g f = inr (inl (record { is = h.is; fit = fit-set d.settings what n h.fit f; one = refl }))
caches-setting d what n (inr (inl h)) g f =
    inr (inl (record { is = h.is; fit = fit-set d.settings what n h.fit f; one = refl }))
caches-setting d what n (inr (inr h)) g f = absurd (let e : (2 == 2) ≡ false = rw h.is at g in cc)

-- the line of the format
pub caches-head : (d : Draft) (format : ℕ) → NoCaches d.format d.settings d.caches d.partitions → (format ≡ 1) ⊎ (format ≡ 2)
    → CachesOf format d.settings (if format == 1 then default_cache d.settings ∷ [] else []) d.partitions
caches-head d format h (inl one) = rw one (inr (inl (record { is = refl; fit = h.fit; one = refl })))
caches-head d format h (inr two) = rw (two, h.zero) (inr (inr none_yet))
  where
    none_yet : SecondCaches 2 [] 0
    none_yet = record {
      is = refl;
      each = refl;
      order = refl;
      kinds = refl;
      distinct = refl;
      few = lit≤ tt;
      sum = refl;
      most =
          lit≤ tt;
    }

-- one more cache
pub record Room (d : Draft) (parts total : ℕ) : Type 0 where
  pub few : length d.caches < 8
  pub sum : total ≡ d.partitions + parts
  pub most : total ≤ 1024

pub room : (d : Draft) (parts : ℕ) → Holds (Room d parts) (total_with d parts)
room d parts =
    cond_both (nat_lt (length d.caches) 8 && nat_le (d.partitions + parts) 1024) _ _ (Holds (Room d parts))
    (λ e. let both = and_parts (nat_lt (length d.caches) 8) (nat_le (d.partitions + parts) 1024) e in
    record { few = ltb-true _ _ both.0; sum = refl; most = leb-true _ _ both.1 })
    (λ e. tt)

pub caches-pushed : (d : Draft) (c : Cache) (total : ℕ) → CachesOf d.format d.settings d.caches d.partitions →
    (d.format == 2) ≡ true → good_cache c ≡ true → is_kind c ≡ true
    → list_all (λ y. may_precede y c) d.caches ≡ true → Room d c.parts total → not (has_cache d.caches c.name) ≡ true
    → CachesOf d.format d.settings (d.caches ++ c ∷ []) total
caches-pushed d c total (inl h) f g k p r n = absurd (let e : (1 == 2) ≡ true = rw h.is at f in cc)
caches-pushed d c total (inr (inl h)) f g k p r n = absurd (let e : (1 == 2) ≡ true = rw h.is at f in cc)
caches-pushed d c total (inr (inr h)) f g k p r n = inr (inr (record {
  is = h.is;
  each = pushed_all good_cache d.caches c h.each g;
  order = pushed_order d.caches c h.order p (of_kind c.first c.«data» k);
  kinds = pushed_all is_kind d.caches c h.kinds k;
  distinct = pushed_distinct same_cache_name d.caches c h.distinct (not-true _ n);
  few = omega (arith, length-append d.caches (c ∷ []), r.few);
  sum = r.sum ∙ (rw (h.sum, sum_by-append (λ x. x.parts) d.caches (c ∷ [])) (omega arith));
  most = r.most;
}))
  where
    of_kind : (f d : Bool) → (f || not d) ≡ true → ((f && not d) || (f && d) || (not f && not d)) ≡ true
    of_kind true true e = refl
    of_kind true false e = refl
    of_kind false true e = cc
    of_kind false false e = refl
