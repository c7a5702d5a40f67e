-- What further records and events leave of what is known of living owners.
use Rattle.std.proofs.Common.{◌≡◌, ◌⊎◌, inl, inr, ◌++◌, ◌||◌, List, [], ◌∷◌, Option, Some, None, Bool, true, false, not, refl, ap, sym, subst, ◌∙◌}
use Rattle.std.specs.List.{flat_map, list_all, list_any}
use Rattle.std.specs.Prelude.{option_to_list}
use Rattle.std.proofs.lemmas.List.Folds.{list_any-append}
use Rattle.frame_laws.proofs.Extending.{append_none, append_twice}
use Rattle.act_rows.specs.NewNodes.{map_if, opening_map_of}
use Rattle.part_model.specs.NextMap.{is_member}
use Rattle.ignite_types.specs.Names.{same_top}
use Rattle.ignite_types.specs.declared.journal.Rec.{Rec}
use Rattle.ignite_types.specs.declared.journal.TopoEvent.{TopoEvent}
use Rattle.ignite_types.specs.declared.names.NodeId.{NodeId}
use Rattle.ignite_types.specs.declared.names.TopVer.{TopVer}
use Rattle.ignite_types.specs.declared.placement.PartMap.{PartMap}
use Rattle.ignite_types.specs.declared.placement.Row.{Row}
use Rattle.ignite_types.specs.declared.scenario.Scenario.{Scenario}
use Rattle.journal_statements.specs.MapLaws.{has_live_owner}
use Rattle.journal_statements.specs.Maps.{has_owner, singles_at}
use Rattle.journal_statements.specs.Noted.{Noted, is_lost, is_lost_in, map_in, recs_of}
use Rattle.journal_statements.specs.Refusals.{maps_at}
use Rattle.journal_statements.specs.Topologies.{Topology}
use Rattle.link_laws.proofs.Journals.{first_rest}
use Rattle.map_laws.proofs.MapFrames.{AreSilent, lost_same, of_node, of_parts}
use Rattle.map_laws.specs.LeavesMaps.{says_no_map}
use Rattle.map_laws.specs.MapFacts.{IsKnownMap, next_map_at, topology_after_events}
use Rattle.survivor_laws.specs.SurvivorFacts.{HasLiveOwners, IsNotedAt, IsOnOwnedBase, NotedSurvivorsFit, SurvivorsFit, is_noted_map, keeps_one}
use Rattle.topology_laws.proofs.Frames.{longer}
use Rattle.topology_laws.proofs.Records.{map_more, or_first}
use Rattle.topology_laws.proofs.Tops.{more_events}
use Rattle.topology_laws.specs.TopologyFacts.{HoldsOfEach, IsUpTo}
use Rattle.ignite_types.specs.declared.journal.Rec.TheVariants as note

-- a record of no map and no loss
abbrev pub says_no_owner : Rec → Bool
says_no_owner (note.Install m) = false
says_no_owner (note.Lost node) = false
says_no_owner _ = true

abbrev pub AreAside : List Noted → Type 0
AreAside ns = list_all (λ (n : Noted). says_no_owner n.rec) ns ≡ true

silent_one : (r : Rec) → says_no_map r ≡ true → says_no_owner r ≡ true
silent_one (note.Install m) silent = absurd (cc (silent))
silent_one (note.Lost n) silent = absurd (cc (silent))
silent_one _ silent = refl

pub silent_aside : (ns : List Noted) → AreSilent ns → AreAside ns
silent_aside [] silent = refl
silent_aside (n ∷ ns) silent =
    let both = first_rest (says_no_map n.rec) (list_all (λ (x : Noted). says_no_map x.rec) ns) silent in
    rw (silent_one n.rec both.0) (silent_aside ns both.1)

aside_map : (r : Rec) → says_no_owner r ≡ true → map_in r ≡ []
aside_map (note.Install m) aside = absurd (cc (aside))
aside_map _ aside = refl

aside_loss : (r : Rec) (x : NodeId) → says_no_owner r ≡ true → is_lost_in x r ≡ false
aside_loss (note.Lost n) x aside = absurd (cc (aside))
aside_loss _ x aside = refl

pub no_maps_at : (k : NodeId) (ns : List Noted) → AreAside ns → flat_map map_in (recs_of k ns) ≡ []
no_maps_at k [] aside = refl
no_maps_at k (n ∷ ns) aside =
    let both = first_rest (says_no_owner n.rec) (list_all (λ (x : Noted). says_no_owner x.rec) ns) aside in
    of_node map_in k n ns (aside_map n.rec both.0) ∙ no_maps_at k ns both.1

pub none_lost : (ns : List Noted) (x : NodeId) → AreAside ns → is_lost ns x ≡ false
none_lost [] x aside = refl
none_lost (n ∷ ns) x aside =
    let both = first_rest (says_no_owner n.rec) (list_all (λ (y : Noted). says_no_owner y.rec) ns) aside in
    rw (aside_loss n.rec x both.0) (none_lost ns x both.1)

-- Maps of a node.

pub at_parts : (s : Scenario) (recs more : List Noted) (k : NodeId) → maps_at s (recs ++ more) k ≡ maps_at s recs k
    ++ flat_map map_in (recs_of k more)
at_parts s recs more k =
    let first : List PartMap = option_to_list (map_if (is_member s.nodes k) (opening_map_of s)) in
    ap (λ (ms : List PartMap). first ++ ms) (of_parts map_in k recs more)
    ∙ sym (append_twice first (flat_map map_in (recs_of k recs)) (flat_map map_in (recs_of k more)))

pub at_same : (s : Scenario) (recs more : List Noted) (k : NodeId) → flat_map map_in (recs_of k more) ≡ [] →
    maps_at s (recs ++ more) k ≡ maps_at s recs k
at_same s recs more k none = at_parts s recs more k ∙ ap (λ (ms : List PartMap). maps_at s recs k ++ ms) none
    ∙ append_none (maps_at s recs k)

pub noted_more : (s : Scenario) (recs more : List Noted) (k : NodeId) (top : TopVer) → is_noted_map s recs k top ≡ true →
    is_noted_map s (recs ++ more) k top ≡ true
noted_more s recs more k top there =
    let test = λ (m : PartMap). same_top m.top top in
    ap (list_any test) (at_parts s recs more k) ∙ list_any-append test (maps_at s recs k) (flat_map map_in (recs_of k more))
    ∙ or_first (list_any test (maps_at s recs k)) (list_any test (flat_map map_in (recs_of k more))) there

pub noted_at_more : (s : Scenario) (recs more : List Noted) (k : NodeId) (o : Option PartMap) → IsNotedAt s recs k o →
    IsNotedAt s (recs ++ more) k o
noted_at_more s recs more k None there = tt
noted_at_more s recs more k (Some m) there = noted_more s recs more k m.top there

-- The highest map.

-- liveness is as before
pub rows_same : (recs after : List Noted) → ((x : NodeId) → is_lost after x ≡ is_lost recs x) → (rows : List Row) →
    list_all (has_live_owner after) rows ≡ list_all (has_live_owner recs) rows
rows_same recs after same rows =
    λ i. list_all (λ (row : Row). not (has_owner row) || list_any (λ (id : NodeId). not (same id i)) row.owners) rows

pub owners_records : (s : Scenario) (es : List TopoEvent) (recs more : List Noted) → AreAside more → HasLiveOwners s es recs →
    HasLiveOwners s es (recs ++ more)
owners_records s es recs more aside o =
    let same : (x : NodeId) → is_lost (recs ++ more) x ≡ is_lost recs x =
    λ x. lost_same recs more x (λ y. none_lost more y aside) in
    record {
      map = o.map;
      is_map = map_more s recs more o.map.top o.map o.is_map;
      at = o.at;
      lives = same o.at ∙ o.lives;
      place = o.place;
      within = o.within;
      member = o.member;
      has_it = noted_more s recs more o.at o.map.top o.has_it;
      is_highest = λ k lives. subst (HoldsOfEach (λ (m : PartMap). IsUpTo m.top o.map.top))
          (sym (at_same s recs more k (no_maps_at k more aside))) (o.is_highest k (sym (same k) ∙ lives));
      owned = rows_same recs (recs ++ more) same o.map.rows ∙ o.owned;
    }

pub owners_events : (s : Scenario) (es events : List TopoEvent) (recs : List Noted) → HasLiveOwners s es recs →
    HasLiveOwners s (es ++ events) recs
owners_events s es events recs o = record {
  map = o.map;
  is_map = o.is_map;
  at = o.at;
  lives = o.lives;
  place = o.place;
  within = longer es events o.place o.within;
  member = ap (λ (t : Topology). is_member t.members o.at) (more_events s es events o.place o.within) ∙ o.member;
  has_it = o.has_it;
  is_highest = o.is_highest;
  owned = o.owned;
}

-- Records of maps and losses.

pub fit_parts : (s : Scenario) (es : List TopoEvent) (before ns ms : List Noted) → NotedSurvivorsFit s es before ns →
    NotedSurvivorsFit s es (before ++ ns) ms → NotedSurvivorsFit s es before (ns ++ ms)
fit_parts s es before [] ms first second = subst (λ (rs : List Noted). NotedSurvivorsFit s es rs ms) (append_none before) second
fit_parts s es before (n ∷ ns) ms first second = (
  first.0,
  fit_parts s es (before ++ n ∷ []) ns ms first.1 (subst (λ (rs : List Noted). NotedSurvivorsFit s es rs ms)
      (sym (append_twice before (n ∷ []) ns)) second),
)

aside_fits : (s : Scenario) (es : List TopoEvent) (before : List Noted) (n : Noted) (r : Rec) → says_no_owner r ≡ true →
    SurvivorsFit s es before n r
aside_fits s es before n (note.Install m) aside = absurd (cc (aside))
aside_fits s es before n (note.Lost x) aside = absurd (cc (aside))
aside_fits s es before n _ aside = tt

pub aside_fit : (s : Scenario) (es : List TopoEvent) (before ns : List Noted) → AreAside ns → NotedSurvivorsFit s es before ns
aside_fit s es before [] aside = tt
aside_fit s es before (n ∷ ns) aside =
    let both = first_rest (says_no_owner n.rec) (list_all (λ (x : Noted). says_no_owner x.rec) ns) aside in
    (aside_fits s es before n n.rec both.0, aside_fit s es (before ++ n ∷ []) ns both.1)

base_events : (s : Scenario) (es events : List TopoEvent) (before : List Noted) (m : PartMap) → IsOnOwnedBase s es before m →
    IsOnOwnedBase s (es ++ events) before m
base_events s es events before m c =
    let same : topology_after_events s (es ++ events) c.place ≡ topology_after_events s es c.place =
    more_events s es events c.place c.within in
    record {
      place = c.place;
      within = longer es events c.place c.within;
      is_top = ap (λ (t : Topology). t.top) same ∙ c.is_top;
      by = c.by;
      is_next = c.is_next ∙ sym (ap (λ (t : Topology). next_map_at s t m.top (singles_at before c.by m.top)) same);
      base = c.base;
      is_base = c.is_base;
      base_known = c.base_known;
      keeps = ap (λ (t : Topology). list_all (keeps_one t.members) c.base.rows) same ∙ c.keeps;
    }

fits_events : (s : Scenario) (es events : List TopoEvent) (before : List Noted) (n : Noted) (r : Rec) →
    SurvivorsFit s es before n r → SurvivorsFit s (es ++ events) before n r
fits_events s es events before n (note.Install m) fits = (owners_events s es events (before ++ n ∷ []) fits.0, by fits.1)
  where
    by : IsKnownMap s before m ⊎ IsOnOwnedBase s es before m → IsKnownMap s before m ⊎ IsOnOwnedBase s (es ++ events) before m
    by (inl known) = inl known
    by (inr next) = inr (base_events s es events before m next)
fits_events s es events before n (note.Lost x) fits = owners_events s es events (before ++ n ∷ []) fits
fits_events s es events before n _ fits = tt

pub fit_events : (s : Scenario) (es events : List TopoEvent) (before ns : List Noted) → NotedSurvivorsFit s es before ns →
    NotedSurvivorsFit s (es ++ events) before ns
fit_events s es events before [] fits = tt
fit_events s es events before (n ∷ ns) fits = (
  fits_events s es events before n n.rec fits.0,
  fit_events s es events (before ++ n ∷ []) ns fits.1,
)
