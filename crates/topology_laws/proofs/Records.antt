-- What more records say.
use Rattle.std.proofs.Common.{◌≡◌, ◌++◌, ◌&&◌, ◌||◌, List, [], ◌∷◌, Option, Some, None, Bool, true, false, if◌then◌else◌, refl, ap, sym, ◌∙◌}
use Rattle.std.specs.List.{flat_map, list_all}
use Rattle.std.proofs.lemmas.List.Folds.{list_any-append}
use Rattle.std.proofs.lemmas.List.Concat.{flat_map-append}
use Rattle.act_rows.specs.NewNodes.{opening_map_of}
use Rattle.frame_laws.proofs.Extending.{append_none}
use Rattle.ignite_types.proofs.NameLaws.{same_top_itself}
use Rattle.ignite_types.proofs.NameLaws.{same_node_itself}
use Rattle.ignite_types.specs.Names.{same_top}
use Rattle.ignite_types.specs.declared.journal.Rec.{Rec}
use Rattle.ignite_types.specs.declared.names.NodeId.{NodeId}
use Rattle.ignite_types.specs.declared.names.TopVer.{TopVer}
use Rattle.ignite_types.specs.declared.placement.PartMap.{PartMap}
use Rattle.ignite_types.specs.declared.scenario.Scenario.{Scenario}
use Rattle.part_model.specs.Orders.{is_node}
use Rattle.journal_statements.specs.Noted.{Noted, is_lost, is_lost_in, map_in, map_of_version, maps_installed, noted_by}
use Rattle.link_laws.proofs.Journals.{first_rest, lost_parts}
use Rattle.link_laws.proofs.LinkTables.{or_true}
use Rattle.topology_laws.specs.LeavesTopology.{says_no_topology}
use Rattle.topology_laws.specs.TopologyScenes.{has_noted_map, is_install_of_version}
use Rattle.topology_laws.proofs.Lists.{found_more, none_more}
use Rattle.ignite_types.specs.declared.journal.Rec.TheVariants as note

pub or_first : (a b : Bool) → a ≡ true → (a || b) ≡ true
or_first a b is = rw is refl

pub or_second : (a b : Bool) → b ≡ true → (a || b) ≡ true
or_second a b is = rw is (or_true a)

pub lost_more : (recs more : List Noted) (n : NodeId) → is_lost recs n ≡ true → is_lost (recs ++ more) n ≡ true
lost_more recs more n is = lost_parts recs more n ∙ or_first (is_lost recs n) (is_lost more n) is

pub installed_parts : (recs more : List Noted) (top : TopVer) (n : NodeId) →
    has_noted_map (recs ++ more) top n ≡ (has_noted_map recs top n || has_noted_map more top n)
installed_parts recs more top n = list_any-append (λ (x : Noted). is_node n x.node && is_install_of_version top x.rec) recs more

pub installed_more : (recs more : List Noted) (top : TopVer) (n : NodeId) → has_noted_map recs top n ≡ true →
    has_noted_map (recs ++ more) top n ≡ true
installed_more recs more top n is = installed_parts recs more top n
    ∙ or_first (has_noted_map recs top n) (has_noted_map more top n) is

pub installs_now : (recs : List Noted) (m : PartMap) (n : NodeId) →
    has_noted_map (recs ++ noted_by (Some n) (note.Install m ∷ [])) m.top n ≡ true
installs_now recs m n =
    installed_parts recs (noted_by (Some n) (note.Install m ∷ [])) m.top n
    ∙ or_second (has_noted_map recs m.top n) (has_noted_map (noted_by (Some n) (note.Install m ∷ [])) m.top n)
    (rw (same_node_itself n, same_top_itself m.top) refl)

-- Maps.

abbrev pub maps_in : List Noted → List PartMap
maps_in recs = flat_map (λ (n : Noted). map_in n.rec) recs

maps_parts : (s : Scenario) (recs more : List Noted) → maps_installed s (recs ++ more) ≡ maps_installed s recs ++ maps_in more
maps_parts s recs more = ap (λ ms. opening_map_of s ∷ ms) (flat_map-append (λ (n : Noted). map_in n.rec) recs more)

pub map_more : (s : Scenario) (recs more : List Noted) (top : TopVer) (m : PartMap) →
    map_of_version (maps_installed s recs) top ≡ Some m → map_of_version (maps_installed s (recs ++ more)) top ≡ Some m
map_more s recs more top m is =
    ap (λ ms. map_of_version ms top) (maps_parts s recs more) ∙ found_more (λ (x : PartMap). same_top x.top top)
    (maps_installed s recs) (maps_in more) m is

quiet_map : (r : Rec) → says_no_topology r ≡ true → map_in r ≡ []
quiet_map (note.Install m) quiet = absurd (cc)
quiet_map _ quiet = refl

pub no_maps : (who : Option NodeId) (rs : List Rec) → list_all says_no_topology rs ≡ true → maps_in (noted_by who rs) ≡ []
no_maps who [] quiet = refl
no_maps who (r ∷ rs) quiet =
    let both = first_rest (says_no_topology r) (list_all says_no_topology rs) quiet in
    rw (quiet_map r both.0) (no_maps who rs both.1)

quiet_lost : (r : Rec) (n : NodeId) → says_no_topology r ≡ true → is_lost_in n r ≡ false
quiet_lost (note.Lost x) n quiet = absurd (cc)
quiet_lost _ n quiet = refl

pub none_lost : (who : Option NodeId) (rs : List Rec) (n : NodeId) → list_all says_no_topology rs ≡ true →
    is_lost (noted_by who rs) n ≡ false
none_lost who [] n quiet = refl
none_lost who (r ∷ rs) n quiet =
    let both = first_rest (says_no_topology r) (list_all says_no_topology rs) quiet in
    rw (quiet_lost r n both.0) (none_lost who rs n both.1)

pub still_there : (recs : List Noted) (who : Option NodeId) (rs : List Rec) (n : NodeId) →
    list_all says_no_topology rs ≡ true → is_lost recs n ≡ false → is_lost (recs ++ noted_by who rs) n ≡ false
still_there recs who rs n quiet lives = lost_parts recs (noted_by who rs) n ∙ (rw (lives, none_lost who rs n quiet) refl)

pub map_same : (s : Scenario) (recs more : List Noted) (top : TopVer) → maps_in more ≡ [] →
    map_of_version (maps_installed s (recs ++ more)) top ≡ map_of_version (maps_installed s recs) top
map_same s recs more top none = ap (λ ms. map_of_version ms top) (maps_parts s recs more
    ∙ ap (λ ms. maps_installed s recs ++ ms) none ∙ append_none (maps_installed s recs))

-- the first map of a version
pub map_first : (s : Scenario) (recs : List Noted) (who : Option NodeId) (m : PartMap) →
    map_of_version (maps_installed s recs) m.top ≡ None →
    map_of_version (maps_installed s (recs ++ noted_by who (note.Install m ∷ []))) m.top ≡ Some m
map_first s recs who m none =
    ap (λ ms. map_of_version ms m.top) (maps_parts s recs (noted_by who (note.Install m ∷ [])))
    ∙ none_more (λ (x : PartMap). same_top x.top m.top) (maps_installed s recs) (m ∷ []) none
    ∙ (rw (same_top_itself m.top) refl)

-- the map of a version after one was installed is the one before, or the new one
pub map_either : (s : Scenario) (recs : List Noted) (who : Option NodeId) (m : PartMap) (top : TopVer) (x : PartMap) →
    map_of_version (maps_installed s (recs ++ noted_by who (note.Install m ∷ []))) top ≡ Some x
    → map_of_version (maps_installed s recs) top ≡ None → same_top m.top top ≡ true
map_either s recs who m top x is none =
    let now = sym (ap (λ ms. map_of_version ms top) (maps_parts s recs (noted_by who (note.Install m ∷ [])))
    ∙ none_more (λ (y : PartMap). same_top y.top top) (maps_installed s recs) (m ∷ []) none) ∙ is in
    (elim (same_top m.top top) as (λ b. (if b then Some m else None) ≡ Some x → b ≡ true) [
      | true ↦ λ e. refl
      | false ↦ λ e. absurd (cc (e))
    ]) now
