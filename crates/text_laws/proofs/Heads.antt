-- The lines before those of the nodes give the caches that run from the start, and the lines of the nodes the nodes.
use Rattle.std.proofs.Common.{◌≡◌, ℕ, ◌+◌, ◌<◌, ◌≤◌, Bool, true, false, List, [], ◌∷◌, ◌++◌, length, refl, sym, ap, ◌∙◌, subst, arith, length-append, append_assoc, append-nil, inl, inr}
use Rattle.std.specs.Prelude.{◌&&◌, ◌||◌, ◌⊎◌, not, nat_le, nat_lt, bytes_eq, codes, filter, flat_map, map, sum_by, Ok, if◌then◌else◌}
use Rattle.std.specs.Cmp.Lexicographic.{bytes_decides}
use Rattle.std.specs.List.{list_all, list_any}
use Rattle.std.proofs.lemmas.Bool.{and_parts, leb-true, lt-ltb, le-leb, not-true, cond-true, cond-false, and_left, not_from_true}
use Rattle.std.proofs.lemmas.List.Sums.{sum_by-cons}
use Rattle.ignite_types.specs.Good.{are_distinct, good_cache, has_cache_line, has_data_line, has_member, in_order, is_default, is_started, is_within, same_cache_name, same_member_node}
use Rattle.ignite_types.specs.declared.names.NodeId.{NodeId}
use Rattle.ignite_types.specs.declared.scenario.Cache.{Cache}
use Rattle.ignite_types.specs.declared.scenario.Member.{Member}
use Rattle.scen_text.specs.declared.draft.Draft.{Draft}
use Rattle.scen_text.specs.declared.line.Line.TheVariants as line
use Rattle.scen_text.specs.declared.line.Setting.TheVariants as setting
use Rattle.scen_text.specs.declared.place.Place.{Place}
use Rattle.scen_text.specs.declared.place.Place.TheVariants as place
use Rattle.scen_text.specs.Drafts.{draft_with_member, empty, with_cache, with_setting}
use Rattle.scen_text.specs.Known.{cache_line_place, has_cache}
use Rattle.scen_text.specs.Places.{may_follow, rank}
use Rattle.text_laws.proofs.Lines.{shape_words, cache_lines, setting_words, first_lines, member_words}
use Rattle.text_laws.proofs.Caches.{new_one}
use Rattle.text_laws.proofs.Means.{Meant, cache_fits, words_of, head_meant, second_meant, parts_meant, backups_meant, near_meant, cache_meant, data_meant, member_meant, within_most}
use Rattle.text_laws.proofs.Taken.{taken, all_taken, taken_first, taken_meant}

-- what may stand behind a place may stand behind those after it
pub stands_later : (last a b : Place) → nat_le (rank a) (rank b) ≡ true → may_follow last a ≡ true → may_follow last b ≡ true
stands_later last a b h s =
    let parts = and_parts (nat_le 1 (rank last)) (nat_le (rank last) (rank a)) s in
    let low = leb-true _ _ parts.1 in
    let high = leb-true (rank a) (rank b) h in
    rw parts.0 (le-leb (rank last) (rank b) (omega arith))

-- the caches of format 2

-- what the lines of these caches make of a draft
pub record CachesTaken (d : Draft) (cs : List Cache) : Type 0 where
  pub next : Draft
  pub took : all_taken d (flat_map cache_lines cs) ≡ Ok next
  pub format : next.format ≡ d.format
  pub named : next.named ≡ d.named
  pub stands : may_follow next.place place.Nodes ≡ true
  pub caches : next.caches ≡ d.caches ++ filter (λ cache. cache.first) cs
  pub sum : next.partitions + sum_by (λ cache. cache.parts) (filter is_started cs) ≤ 1024
  pub nodes : next.nodes ≡ d.nodes
  pub members : next.members ≡ d.members
  pub plan : next.plan ≡ d.plan
  pub objects : next.objects ≡ d.objects
  pub sessions : next.sessions ≡ d.sessions

-- one more cache
abbrev with_line : Draft → Bool → Cache → Draft
with_line d is_data c = record d {
  place = cache_line_place is_data;
  caches = d.caches ++ c ∷ [];
  partitions =
      d.partitions + c.parts;
}

same_cache : (c : Cache) (f d : Bool) → c.first ≡ f → c.«data» ≡ d → record c { first = f; «data» = d } ≡ c
same_cache c f d p q = λ i. record c { first = sym p i; «data» = sym q i }

cache_step : (d : Draft) (c : Cache) (is_data : Bool) → c.first ≡ true → c.«data» ≡ is_data →
    may_follow d.place (cache_line_place is_data) ≡ true → good_cache c ≡ true
    → length d.caches < 8 → d.partitions + c.parts ≤ 1024 → has_cache d.caches c.name ≡ false →
    with_cache d is_data (words_of c) ≡ Ok (with_line d is_data c)
cache_step d c is_data first kind st g few sum new =
    let h = cache_fits c g in
    let fits : (is_within 1 1024 c.parts && nat_le c.backups 3 && nat_le c.near 10000) ≡ true =
    rw (h.parts, h.backups, h.near) refl in
    let room : (nat_lt (length d.caches) 8 && nat_le (d.partitions + c.parts) 1024) ≡ true =
    rw (lt-ltb _ 8 few, le-leb _ 1024 sum) refl in
    rw (st, fits) (rw room (rw new (ap (λ x. Ok (with_line d is_data x)) (same_cache c true is_data first kind))))

-- started caches have no lines
pub started_none : (cs : List Cache) → list_all is_started cs ≡ true → (flat_map cache_lines cs ≡ [])
    × (filter (λ cache. cache.first) cs ≡ []) × (filter is_started cs ≡ cs)
started_none [] h = (refl, refl, refl)
started_none (c ∷ cs) h =
    let parts = and_parts (is_started c) (list_all is_started cs) h in
    let first = not-true c.first (and_parts (not c.first) (not c.«data») parts.0).0 in
    let more = started_none cs parts.1 in
    (rw first more.0, rw first more.1, rw parts.0 (ap (λ xs. c ∷ xs) more.2))

-- of which line a cache is
pub record OfCacheLine (c : Cache) : Type 0 where
  pub first : c.first ≡ true
  pub plain : c.«data» ≡ false

pub record OfDataLine (c : Cache) (more : List Cache) : Type 0 where
  pub first : c.first ≡ true
  pub kept : c.«data» ≡ true
  pub last : list_any has_cache_line more ≡ false

pub line_kind : (c : Cache) (more : List Cache) → (has_cache_line c || (has_data_line c && not (list_any has_cache_line more))
    || (is_started c && list_all is_started more)) ≡ true
    → OfCacheLine c ⊎ (OfDataLine c more ⊎ (list_all is_started (c ∷ more) ≡ true))
line_kind c more h = by c.first c.«data» refl refl h
  where
    by : (f d : Bool) → c.first ≡ f → c.«data» ≡ d → ((f && not d) || ((f && d) && not (list_any has_cache_line more))
        || ((not f && not d) && list_all is_started more)) ≡ true
        → OfCacheLine c ⊎ (OfDataLine c more ⊎ (list_all is_started (c ∷ more) ≡ true))
    by true false p q h = inl (record { first = p; plain = q })
    by true true p q h = inr (inl (record { first = p; kept = q; last = last (list_any has_cache_line more) h }))
      where
        last : (b : Bool) → ((true && not b) || false) ≡ true → b ≡ false
        last true e = cc
        last false e = refl
    by false false p q h = inr (inr (rw (p, q) h))
    by false true p q h = cc

-- the lines of these caches are taken by each draft that they fit
abbrev TakesCaches : List Cache → Type 0
TakesCaches cs = (d : Draft) → d.format ≡ 2 → may_follow d.place place.Data ≡ true →
    (list_any has_cache_line cs ≡ true → may_follow d.place place.Caches ≡ true)
    → in_order cs ≡ true → list_all good_cache cs ≡ true → are_distinct same_cache_name (d.caches ++ cs) ≡ true →
    length (d.caches ++ cs) ≤ 8
    → d.partitions + sum_by (λ cache. cache.parts) cs ≤ 1024 → CachesTaken d cs

caches_taken : (cs : List Cache) → TakesCaches cs
caches_taken [] d two st lined order good distinct few sum = record {
  next = d;
  took = refl;
  format = refl;
  named = refl;
  stands = stands_later d.place place.Data place.Nodes refl st;
  caches = sym (append-nil d.caches);
  sum = sum;
  nodes = refl;
  members = refl;
  plan = refl;
  objects = refl;
  sessions = refl;
}
caches_taken (c ∷ cs) d two st lined order good distinct few sum =
    let parts = and_parts _ (in_order cs) order in
    let goods = and_parts (good_cache c) (list_all good_cache cs) good in
    by (caches_taken cs) (line_kind c cs parts.0) parts.1 goods.0 goods.1
  where
    few_now : length d.caches < 8
    few_now = omega (arith, length-append d.caches (c ∷ cs))

    sum_now : d.partitions + c.parts ≤ 1024
    sum_now = omega (arith, sum, sum_by-cons (λ (cache : Cache). cache.parts) c cs)

    new : has_cache d.caches c.name ≡ false
    new = new_one same_cache_name d.caches c cs distinct

    -- a line, and then the others
    behind : (is_data : Bool) → c.first ≡ true →
        cache_lines c ≡ (((if is_data then codes "data" else codes "cache") ∷ shape_words c) ∷ [])
        → taken d ((if is_data then codes "data" else codes "cache") ∷ shape_words c) ≡ Ok (with_line d is_data c) →
        CachesTaken (with_line d is_data c) cs → CachesTaken d (c ∷ cs)
    behind is_data first lines one more = record {
      next = more.next;
      took = rw lines (taken_first d (with_line d is_data c) more.next ((if is_data then codes "data" else codes "cache")
          ∷ shape_words c) (flat_map cache_lines cs) one more.took);
      format = more.format;
      named = more.named;
      stands = more.stands;
      caches = more.caches ∙ (append_assoc d.caches (c ∷ []) (filter (λ cache. cache.first) cs)
          ∙ ap (λ xs. d.caches ++ xs)
          (sym (cond-true c.first (c ∷ filter (λ cache. cache.first) cs) (filter (λ cache. cache.first) cs) first)));
      sum = subst (λ xs. more.next.partitions + sum_by (λ (cache : Cache). cache.parts) xs ≤ 1024)
          (sym (cond-false (is_started c) (c ∷ filter is_started cs) (filter is_started cs)
          (and_left (not c.first) (not c.«data») (not_from_true c.first first)))) more.sum;
      nodes = more.nodes;
      members = more.members;
      plan = more.plan;
      objects = more.objects;
      sessions = more.sessions;
    }

    by : TakesCaches cs → OfCacheLine c ⊎ (OfDataLine c cs ⊎ (list_all is_started (c ∷ cs) ≡ true)) → in_order cs ≡ true →
        good_cache c ≡ true → list_all good_cache cs ≡ true → CachesTaken d (c ∷ cs)
    by go (inl h) order g goods =
        let first = h.first in
        let plain = h.plain in
        let here : may_follow d.place place.Caches ≡ true = lined (rw (first, plain) refl) in
        let means : Meant d.format (codes "cache" ∷ shape_words c) (line.Cache false (words_of c)) = rw two (cache_meant c g) in
        let one = taken_meant d _ _ means ∙ cache_step d c false first plain here g few_now sum_now new in
        behind false first (rw (first, plain) refl) one
        (go (with_line d false c) two refl (λ e. refl) order goods (rw (append_assoc d.caches (c ∷ []) cs) distinct)
        (rw (append_assoc d.caches (c ∷ []) cs) few)
        (omega (arith, sum, sum_by-cons (λ (cache : Cache). cache.parts) c cs)))
    by go (inr (inl h)) order g goods =
        let first = h.first in
        let kept = h.kept in
        let last = h.last in
        let means : Meant d.format (codes "data" ∷ shape_words c) (line.Cache true (words_of c)) = rw two (data_meant c g) in
        let one = taken_meant d _ _ means ∙ cache_step d c true first kept st g few_now sum_now new in
        behind true first (rw (first, kept) refl) one
        (go (with_line d true c) two refl (λ e. absurd (let f : false ≡ true = rw last at e in cc)) order goods
        (rw (append_assoc d.caches (c ∷ []) cs) distinct) (rw (append_assoc d.caches (c ∷ []) cs) few)
        (omega (arith, sum, sum_by-cons (λ (cache : Cache). cache.parts) c cs)))
    by go (inr (inr h)) order g goods =
        let none = started_none (c ∷ cs) h in
        record {
          next = d;
          took = rw none.0 refl;
          format = refl;
          named = refl;
          stands = stands_later d.place place.Data place.Nodes refl st;
          caches = rw none.1 (sym (append-nil d.caches));
          sum = rw none.2 sum;
          nodes = refl;
          members = refl;
          plan = refl;
          objects = refl;
          sessions = refl;
        }

-- the whole head

pub record HeadTaken (lines : List (List (List ℕ))) (f : ℕ) (cs : List Cache) (called : List NodeId) : Type 0 where
  pub next : Draft
  pub took : all_taken (empty called) lines ≡ Ok next
  pub format : next.format ≡ f
  pub named : next.named ≡ called
  pub stands : may_follow next.place place.Nodes ≡ true
  pub caches : next.caches ≡ filter (λ cache. cache.first) cs
  pub sum : next.partitions + sum_by (λ cache. cache.parts) (filter is_started cs) ≤ 1024
  pub nodes : next.nodes ≡ []
  pub members : next.members ≡ []
  pub plan : next.plan ≡ []
  pub objects : next.objects ≡ []
  pub sessions : next.sessions ≡ []

-- the drafts behind the lines of format 1

abbrev one : ℕ → ℕ → ℕ → Cache
one parts backups near = record {
  name = codes "default";
  parts = parts;
  backups = backups;
  near = near;
  first = true;
  «data» = false;
}

abbrev at_first : List NodeId → Draft
at_first called = record (empty called) { place = place.Head; format = 1; caches = one 1024 0 0 ∷ [] }

abbrev at_parts : List NodeId → ℕ → Draft
at_parts called p = record (at_first called) {
  place = place.Parts;
  settings = record { parts = p; backups = 0; near = 0 };
  caches = one p 0 0 ∷ [];
}

abbrev at_backups : List NodeId → ℕ → ℕ → Draft
at_backups called p b = record (at_first called) {
  place = place.Backups;
  settings =
      record { parts = p; backups = b; near = 0 };
  caches = one p b 0 ∷ [];
}

abbrev at_near : List NodeId → ℕ → ℕ → ℕ → Cache → Draft
at_near called p b n c = record (at_first called) {
  place = place.Near;
  settings =
      record { parts = p; backups = b; near = n };
  caches = c ∷ [];
}

same_one : (x : Cache) → x.name ≡ codes "default" → x.first ≡ true → x.«data» ≡ false → one x.parts x.backups x.near ≡ x
same_one x p q r = λ i. record {
  name = sym p i;
  parts = x.parts;
  backups = x.backups;
  near = x.near;
  first = sym q i;
  «data» = sym r i;
}

parts_step : (called : List NodeId) (p : ℕ) → is_within 1 1024 p ≡ true → with_setting (at_first called) setting.Parts p
    ≡ Ok (at_parts called p)
parts_step called p h = rw h refl

backups_step : (called : List NodeId) (p b : ℕ) → nat_le b 3 ≡ true → with_setting (at_parts called p) setting.Backups b
    ≡ Ok (at_backups called p b)
backups_step called p b h = rw h refl

near_step : (called : List NodeId) (p b n : ℕ) → nat_le n 10000 ≡ true → with_setting (at_backups called p b) setting.Near n
    ≡ Ok (at_near called p b n (one p b n))
near_step called p b n h = rw h refl

-- the settings of the one cache of format 1
pub first_head : (cs : List Cache) (called : List NodeId) → is_default cs ≡ true → list_all good_cache cs ≡ true
    → HeadTaken ((codes "scenario" ∷ codes "1" ∷ []) ∷ first_lines cs) 1 cs called
first_head [] called h g = absurd (cc)
first_head (c ∷ d ∷ more) called h g = absurd (cc)
first_head (c ∷ []) called h g =
    let parts = and_parts (bytes_eq c.name (codes "default")) (has_cache_line c) h in
    let kinds = and_parts c.first (not c.«data») parts.1 in
    let name : c.name ≡ codes "default" = (bytes_decides c.name (codes "default")).0 parts.0 in
    let plain : c.«data» ≡ false = not-true _ kinds.1 in
    let first = kinds.0 in
    let fit = cache_fits c (and_parts (good_cache c) true g).0 in
    let p = within_most 1 1024 c.parts fit.parts in
    let b = leb-true c.backups 3 fit.backups in
    let n = leb-true c.near 10000 fit.near in
    let last = at_near called c.parts c.backups c.near c in
    let near : all_taken (at_backups called c.parts c.backups) (setting_words (codes "near") c.near ∷ []) ≡ Ok last =
    taken_first (at_backups called c.parts c.backups) (at_near called c.parts c.backups c.near (one c.parts c.backups c.near))
    last (setting_words (codes "near") c.near) []
    (taken_meant (at_backups called c.parts c.backups) _ _ (near_meant c.near (omega arith))
    ∙ near_step called c.parts c.backups c.near fit.near)
    (ap (λ x. Ok (at_near called c.parts c.backups c.near x)) (same_one c name first plain)) in
    let backups : all_taken (at_parts called c.parts) (setting_words (codes "backups") c.backups ∷ setting_words
    (codes "near") c.near ∷ []) ≡ Ok last =
    taken_first (at_parts called c.parts) (at_backups called c.parts c.backups) last
    (setting_words (codes "backups") c.backups) (setting_words (codes "near") c.near ∷ [])
    (taken_meant (at_parts called c.parts) _ _ (backups_meant c.backups (omega arith))
    ∙ backups_step called c.parts c.backups fit.backups) near in
    let settings : all_taken (at_first called) (first_lines (c ∷ [])) ≡ Ok last =
    taken_first (at_first called) (at_parts called c.parts) last (setting_words (codes "parts") c.parts)
    (setting_words (codes "backups") c.backups ∷ setting_words (codes "near") c.near ∷ [])
    (taken_meant (at_first called) _ _ (parts_meant c.parts (omega arith)) ∙ parts_step called c.parts fit.parts) backups in
    record {
      next = last;
      took = taken_first (empty called) (at_first called) last (codes "scenario" ∷ codes "1" ∷ []) (first_lines (c ∷ []))
          (taken_meant (empty called) _ _ (head_meant 1)) settings;
      format = refl;
      named = refl;
      stands = refl;
      caches = sym (cond-true c.first (c ∷ []) [] first);
      sum = subst (λ xs. 0 + sum_by (λ (cache : Cache). cache.parts) xs ≤ 1024)
          (sym (cond-false (is_started c) (c ∷ []) [] (and_left (not c.first) (not c.«data») (not_from_true c.first first))))
          (omega arith);
      nodes = refl;
      members = refl;
      plan = refl;
      objects = refl;
      sessions = refl;
    }

abbrev at_second : List NodeId → Draft
at_second called = record (empty called) { place = place.Head; format = 2; caches = [] }

pub second_head : (cs : List Cache) (called : List NodeId) → in_order cs ≡ true → list_all good_cache cs ≡ true →
    are_distinct same_cache_name cs ≡ true → length cs ≤ 8
    → sum_by (λ cache. cache.parts) cs ≤ 1024 → HeadTaken ((codes "scenario" ∷ codes "2" ∷ []) ∷ flat_map cache_lines cs) 2 cs
    called
second_head cs called order good distinct few sum =
    let more = caches_taken cs (at_second called) refl refl (λ e. refl) order good distinct few (omega (arith, sum)) in
    record {
      next = more.next;
      took = taken_first (empty called) (at_second called) more.next (codes "scenario" ∷ codes "2" ∷ [])
          (flat_map cache_lines cs) (taken_meant (empty called) _ _ (second_meant 1)) more.took;
      format = more.format;
      named = more.named;
      stands = more.stands;
      caches = more.caches;
      sum = more.sum;
      nodes = more.nodes;
      members = more.members;
      plan = more.plan;
      objects = more.objects;
      sessions = more.sessions;
    }

-- the nodes

pub record NodesTaken (d : Draft) (ms : List Member) : Type 0 where
  pub next : Draft
  pub took : all_taken d (map member_words ms) ≡ Ok next
  pub format : next.format ≡ d.format
  pub named : next.named ≡ d.named
  pub stands : may_follow next.place place.Plan ≡ true
  pub caches : next.caches ≡ d.caches
  pub partitions : next.partitions ≡ d.partitions
  pub nodes : next.nodes ≡ d.nodes ++ ms
  pub members : next.members ≡ d.members ++ ms
  pub plan : next.plan ≡ d.plan
  pub objects : next.objects ≡ d.objects
  pub sessions : next.sessions ≡ d.sessions

abbrev with_node : Draft → Member → Draft
with_node d m = record d { place = place.Nodes; nodes = d.nodes ++ m ∷ []; members = d.members ++ m ∷ [] }

member_step : (d : Draft) (m : Member) → may_follow d.place place.Nodes ≡ true → is_within 1 99 m.node.0 ≡ true →
    length d.members < 16 → has_member d.members m.node ≡ false
    → draft_with_member d m ≡ Ok (with_node d m)
member_step d m st within few new = rw (st, within, lt-ltb _ 16 few, new) refl

pub nodes_taken : (ms : List Member) (d : Draft) → may_follow d.place place.Nodes ≡ true →
    list_all (λ member. is_within 1 99 member.node.0) ms ≡ true
    → are_distinct same_member_node (d.members ++ ms) ≡ true → length (d.members ++ ms) ≤ 16 → NodesTaken d ms
nodes_taken [] d st within distinct few = record {
  next = d;
  took = refl;
  format = refl;
  named = refl;
  stands = stands_later d.place place.Nodes place.Plan refl st;
  caches = refl;
  partitions = refl;
  nodes = sym (append-nil d.nodes);
  members = sym (append-nil d.members);
  plan = refl;
  objects = refl;
  sessions = refl;
}
nodes_taken (m ∷ ms) d st within distinct few =
    let parts = and_parts (is_within 1 99 m.node.0) (list_all (λ member. is_within 1 99 member.node.0) ms) within in
    let few_now : length d.members < 16 = omega (arith, few, length-append d.members (m ∷ ms)) in
    let one = taken_meant d _ _ (member_meant d.format m.node.0 m.server parts.0)
    ∙ member_step d m st parts.0 few_now (new_one same_member_node d.members m ms distinct) in
    let more = nodes_taken ms (with_node d m) refl parts.1 (rw (append_assoc d.members (m ∷ []) ms) distinct)
    (rw (append_assoc d.members (m ∷ []) ms) few) in
    record {
      next = more.next;
      took = taken_first d (with_node d m) more.next (member_words m) (map member_words ms) one more.took;
      format = more.format;
      named = more.named;
      stands = more.stands;
      caches = more.caches;
      partitions = more.partitions;
      nodes = more.nodes ∙ append_assoc d.nodes (m ∷ []) ms;
      members = more.members ∙ append_assoc d.members (m ∷ []) ms;
      plan = more.plan;
      objects = more.objects;
      sessions = more.sessions;
    }
