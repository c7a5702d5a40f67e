-- What further records and events leave of what is known of maps.
use Rattle.std.proofs.Common.{◌≡◌, ◌⊎◌, inl, inr, ◌++◌, ◌||◌, List, [], ◌∷◌, Option, Some, Bool, true, false, if◌then◌else◌, not, filter, refl, ap, sym, subst, ◌∙◌, arith}
use Rattle.std.specs.List.{flat_map, list_all}
use Rattle.std.proofs.lemmas.Grind.{flat_map-append}
use Rattle.std.proofs.lemmas.List.{length-append}
use Rattle.frame_laws.proofs.Extending.{append_none, append_twice}
use Rattle.act_rows.specs.Exchange.{all_sent}
use Rattle.part_model.specs.Directory.{oldest_member}
use Rattle.part_model.specs.NextMap.{next_map}
use Rattle.part_model.specs.Orders.{is_node}
use Rattle.ignite_types.specs.Names.{same_node}
use Rattle.ignite_types.specs.declared.journal.Rec.{Rec}
use Rattle.ignite_types.specs.declared.journal.TopoEvent.{TopoEvent}
use Rattle.ignite_types.specs.declared.message.Single.{Single}
use Rattle.ignite_types.specs.declared.names.NodeId.{NodeId}
use Rattle.ignite_types.specs.declared.names.TopVer.{TopVer}
use Rattle.ignite_types.specs.declared.placement.PartMap.{PartMap}
use Rattle.ignite_types.specs.declared.scenario.Cache.{Cache}
use Rattle.ignite_types.specs.declared.scenario.Scenario.{Scenario}
use Rattle.journal_statements.specs.Maps.{single_in, singles_at}
use Rattle.journal_statements.specs.Noted.{Noted, is_lost, is_lost_in, map_in, noted_by, rec_of, recs_of}
use Rattle.journal_statements.specs.Topologies.{Topology}
use Rattle.link_laws.proofs.Journals.{first_rest, lost_parts}
use Rattle.map_laws.specs.LeavesMaps.{says_no_map}
use Rattle.map_laws.specs.MapFacts.{IsComputedMap, IsKnownMap, NodeMaps, NotedMapFits, NotedMapsFit, maps_by, topology_after_events}
use Rattle.scenes.proofs.Sounds.{turned}
use Rattle.topology_laws.proofs.Tops.{more_events}
use Rattle.topology_laws.specs.TopologyFacts.{HasAtLeast, HoldsOfEach}
use Rattle.ignite_types.specs.declared.journal.Rec.TheVariants as note

abbrev pub AreSilent : List Noted → Type 0
AreSilent ns = list_all (λ (n : Noted). says_no_map n.rec) ns ≡ true

pub silent_by : (who : Option NodeId) (rs : List Rec) → list_all says_no_map rs ≡ true → AreSilent (noted_by who rs)
silent_by who [] silent = refl
silent_by who (r ∷ rs) silent =
    let both = first_rest (says_no_map r) (list_all says_no_map rs) silent in
    rw both.0 (silent_by who rs both.1)

silent_map : (r : Rec) → says_no_map r ≡ true → map_in r ≡ []
silent_map (note.Install m) silent = absurd (cc)
silent_map _ silent = refl

silent_single : (v : TopVer) (r : Rec) → says_no_map r ≡ true → single_in v r ≡ []
silent_single v (note.Deliver from m) silent = absurd (cc)
silent_single v _ silent = refl

silent_loss : (r : Rec) (x : NodeId) → says_no_map r ≡ true → is_lost_in x r ≡ false
silent_loss (note.Lost n) x silent = absurd (cc)
silent_loss _ x silent = refl

-- what one word says of the records that a node noted
pub of_node : {A : Type 0} (f : Rec → List A) (k : NodeId) (n : Noted) (ns : List Noted) → f n.rec ≡ [] →
    flat_map f (recs_of k (n ∷ ns)) ≡ flat_map f (recs_of k ns)
of_node f k n ns none = by (is_node k n.node)
  where
    by : (c : Bool) → flat_map f ((if c then n.rec ∷ [] else []) ++ recs_of k ns) ≡ flat_map f (recs_of k ns)
    by true = ap (λ xs. xs ++ flat_map f (recs_of k ns)) none
    by false = refl

none_of : {A : Type 0} (f : Rec → List A) → ((r : Rec) → says_no_map r ≡ true → f r ≡ []) → (k : NodeId) (ns : List Noted) →
    AreSilent ns → flat_map f (recs_of k ns) ≡ []
none_of f quiet k [] silent = refl
none_of f quiet k (n ∷ ns) silent =
    let both = first_rest (says_no_map n.rec) (list_all (λ (x : Noted). says_no_map x.rec) ns) silent in
    of_node f k n ns (quiet n.rec both.0) ∙ none_of f quiet k ns both.1

pub none_lost : (ns : List Noted) (x : NodeId) → AreSilent ns → is_lost ns x ≡ false
none_lost [] x silent = refl
none_lost (n ∷ ns) x silent =
    let both = first_rest (says_no_map n.rec) (list_all (λ (y : Noted). says_no_map y.rec) ns) silent in
    rw (silent_loss n.rec x both.0) (none_lost ns x both.1)

pub recs_parts : (k : NodeId) (recs more : List Noted) → recs_of k (recs ++ more) ≡ recs_of k recs ++ recs_of k more
recs_parts k recs more = flat_map-append (rec_of k) recs more

pub of_parts : {A : Type 0} (f : Rec → List A) (k : NodeId) (recs more : List Noted) →
    flat_map f (recs_of k (recs ++ more)) ≡ flat_map f (recs_of k recs) ++ flat_map f (recs_of k more)
of_parts f k recs more = ap (flat_map f) (recs_parts k recs more) ∙ flat_map-append f (recs_of k recs) (recs_of k more)

pub filter_same : {A : Type 0} (p q : A → Bool) (xs : List A) → ((x : A) → p x ≡ q x) → filter p xs ≡ filter q xs
filter_same p q xs same = λ i. filter (λ x. same x i) xs

pub lost_same : (recs more : List Noted) (x : NodeId) → ((y : NodeId) → is_lost more y ≡ false) →
    is_lost (recs ++ more) x ≡ is_lost recs x
lost_same recs more x none = lost_parts recs more x ∙ (rw (none x) (or_false (is_lost recs x)))
  where
    or_false : (c : Bool) → (c || false) ≡ c
    or_false true = refl
    or_false false = refl

-- Records that say nothing of a node's Singles and maps, and tell of no loss.
module _ (s : Scenario) (recs more : List Noted) (k : NodeId) (no_map : flat_map map_in (recs_of k more) ≡ [])
    (no_single : (v : TopVer) → flat_map (single_in v) (recs_of k more) ≡ []) (no_loss : (x : NodeId) →
    is_lost more x ≡ false) where
  pub maps_same : maps_by k (recs ++ more) ≡ maps_by k recs
  maps_same = of_parts map_in k recs more ∙ ap (λ ms. maps_by k recs ++ ms) no_map ∙ append_none (maps_by k recs)

  pub singles_same : (v : TopVer) → singles_at (recs ++ more) k v ≡ singles_at recs k v
  singles_same v =
      ap (filter (λ (x : Single). not (is_lost (recs ++ more) x.from))) (of_parts (single_in v) k recs more
      ∙ ap (λ xs. flat_map (single_in v) (recs_of k recs) ++ xs) (no_single v)
      ∙ append_none (flat_map (single_in v) (recs_of k recs)))
      ∙ filter_same (λ (x : Single). not (is_lost (recs ++ more) x.from)) (λ (x : Single). not (is_lost recs x.from))
      (flat_map (single_in v) (recs_of k recs)) (λ x. ap not (lost_same recs more x.from no_loss))

  pub node_more : (caches : List Cache) (installed : Option PartMap) (singles : List Single) →
      NodeMaps s recs k caches installed singles → NodeMaps s (recs ++ more) k caches installed singles
  node_more caches installed singles n = record {
    caches_are = n.caches_are;
    singles_are = λ v above. n.singles_are v above ∙ sym (singles_same v);
    has_last = subst (λ (ms : List PartMap). HoldsOfEach (λ (m : PartMap). HasAtLeast m.top installed) ms)
        (sym maps_same) n.has_last;
    has_first = n.has_first;
  }

-- silent records
pub node_silent : (s : Scenario) (recs more : List Noted) (k : NodeId) → AreSilent more →
    (caches : List Cache) (installed : Option PartMap) (singles : List Single)
    → NodeMaps s recs k caches installed singles → NodeMaps s (recs ++ more) k caches installed singles
node_silent s recs more k silent caches installed singles n =
    node_more s recs more k (none_of map_in silent_map k more silent)
    (λ v. none_of (single_in v) (silent_single v) k more silent) (λ x. none_lost more x silent) caches installed singles n

-- records of another node
others_none : {A : Type 0} (f : Rec → List A) (k n : NodeId) (rs : List Rec) → same_node n k ≡ false →
    flat_map f (recs_of k (noted_by (Some n) rs)) ≡ []
others_none f k n [] other = refl
others_none f k n (r ∷ rs) other =
    ap (λ (c : Bool). flat_map f ((if c then r ∷ [] else []) ++ recs_of k (noted_by (Some n) rs))) (turned k n ∙ other)
    ∙ others_none f k n rs other

pub node_other : (s : Scenario) (recs : List Noted) (n : NodeId) (rs : List Rec) (k : NodeId) → same_node n k ≡ false →
    ((x : NodeId) → is_lost (noted_by (Some n) rs) x ≡ false) → (caches : List Cache) (installed : Option PartMap)
    (singles : List Single)
    → NodeMaps s recs k caches installed singles → NodeMaps s (recs ++ noted_by (Some n) rs) k caches installed singles
node_other s recs n rs k other no_loss caches installed singles m =
    node_more s recs (noted_by (Some n) rs) k (others_none map_in k n rs other) (λ v. others_none (single_in v) k n rs other)
    no_loss caches installed singles m

-- Records of maps.

pub noted_parts : (s : Scenario) (es : List TopoEvent) (before ns ms : List Noted) → NotedMapsFit s es before ns →
    NotedMapsFit s es (before ++ ns) ms → NotedMapsFit s es before (ns ++ ms)
noted_parts s es before [] ms first second = subst (λ (rs : List Noted). NotedMapsFit s es rs ms) (append_none before) second
noted_parts s es before (n ∷ ns) ms first second = (
  first.0,
  noted_parts s es (before ++ n ∷ []) ns ms first.1 (subst (λ (rs : List Noted). NotedMapsFit s es rs ms)
      (sym (append_twice before (n ∷ []) ns)) second),
)

silent_fits : (s : Scenario) (es : List TopoEvent) (before : List Noted) (who : Option NodeId) (r : Rec) →
    says_no_map r ≡ true → NotedMapFits s es before who r
silent_fits s es before who (note.Install m) silent = absurd (cc (silent))
silent_fits s es before who _ silent = tt

pub noted_silent : (s : Scenario) (es : List TopoEvent) (before ns : List Noted) → AreSilent ns → NotedMapsFit s es before ns
noted_silent s es before [] silent = tt
noted_silent s es before (n ∷ ns) silent =
    let both = first_rest (says_no_map n.rec) (list_all (λ (x : Noted). says_no_map x.rec) ns) silent in
    (silent_fits s es before n.node n.rec both.0, noted_silent s es (before ++ n ∷ []) ns both.1)

-- one without a map, by its kind
pub noted_calm : (s : Scenario) (es : List TopoEvent) (before : List Noted) (who : Option NodeId) (r : Rec) → map_in r ≡ [] →
    NotedMapFits s es before who r
noted_calm s es before who (note.Install m) none = absurd (cc (none))
noted_calm s es before who _ none = tt

-- More topology events.

computed_more : (s : Scenario) (es more : List TopoEvent) (before : List Noted) (m : PartMap) → IsComputedMap s es before m →
    IsComputedMap s (es ++ more) before m
computed_more s es more before m c =
    let same : topology_after_events s (es ++ more) c.place ≡ topology_after_events s es c.place =
    more_events s es more c.place c.within in
    record {
      place = c.place;
      within = (let sum = length-append es more in let within = c.within in omega (arith, sum, within));
      is_top = ap (λ (t : Topology). t.top) same ∙ c.is_top;
      by = c.by;
      is_oldest = ap (λ (t : Topology). oldest_member t.members) same ∙ c.is_oldest;
      sent = ap (λ (t : Topology). all_sent t.members (singles_at before c.by m.top)) same ∙ c.sent;
      is_next = c.is_next ∙ sym
          (ap (λ (t : Topology). next_map m.top t.members s.caches t.running (singles_at before c.by m.top)) same);
      has_highest = c.has_highest;
    }

noted_more : (s : Scenario) (es more : List TopoEvent) (before : List Noted) (who : Option NodeId) (r : Rec) →
    NotedMapFits s es before who r → NotedMapFits s (es ++ more) before who r
noted_more s es more before who (note.Install m) fits = record { known_or_next = by fits.known_or_next; rises = fits.rises }
  where
    by : IsKnownMap s before m ⊎ IsComputedMap s es before m → IsKnownMap s before m ⊎ IsComputedMap s (es ++ more) before m
    by (inl known) = inl known
    by (inr next) = inr (computed_more s es more before m next)
noted_more s es more before who _ fits = tt

pub events_more : (s : Scenario) (es more : List TopoEvent) (before ns : List Noted) → NotedMapsFit s es before ns →
    NotedMapsFit s (es ++ more) before ns
events_more s es more before [] fits = tt
events_more s es more before (n ∷ ns) fits = (
  noted_more s es more before n.node n.rec fits.0,
  events_more s es more (before ++ n ∷ []) ns fits.1,
)
