-- A loss: the others discard the lost node's Singles.
use Rattle.std.proofs.Common.{◌≡◌, ◌++◌, ◌&&◌, ◌||◌, List, [], ◌∷◌, None, Bool, true, false, if◌then◌else◌, not, filter, refl, ap, sym, subst, ◌∙◌}
use Rattle.std.specs.List.{flat_map}
use Rattle.frame_laws.proofs.Extending.{append_none}
use Rattle.ignite_types.specs.Names.{same_node, same_top}
use Rattle.ignite_types.specs.declared.message.Single.{Single}
use Rattle.ignite_types.specs.declared.names.NodeId.{NodeId}
use Rattle.ignite_types.specs.declared.names.TopVer.{TopVer}
use Rattle.ignite_types.specs.declared.placement.PartMap.{PartMap}
use Rattle.journal_statements.specs.Maps.{single_in, singles_at}
use Rattle.journal_statements.specs.Noted.{Noted, is_lost, map_in, recs_of}
use Rattle.link_laws.proofs.Journals.{lost_parts}
use Rattle.link_laws.specs.Carrying.{is_gone}
use Rattle.map_laws.proofs.MapFrames.{events_more, noted_parts, of_parts}
use Rattle.map_laws.specs.MapFacts.{maps_by, singles_of_version}
use Rattle.map_laws.specs.MapInvariant.{MapInvariant}
use Rattle.node_state.specs.declared.life.Life.{Life}
use Rattle.node_state.specs.Node.{NodeState}
use Rattle.scenes.proofs.Sounds.{turned}
use Rattle.scenes.specs.Events.{IsSound}
use Rattle.scenes.specs.Scenes.{Scene, is_survivor, one_record, plan_records, scene_after_loss, state_after_loss}
use Rattle.topology_laws.specs.TopologyFacts.{HasAtLeast, HoldsOfEach}
use Rattle.ignite_types.specs.declared.journal.Rec.TheVariants as note
use Rattle.ignite_types.specs.declared.journal.TopoEvent.TheVariants as topo
use Rattle.node_state.specs.declared.life.Life.TheVariants as life

-- two tests one after the other, in any order
filter_swap : (p q : Single → Bool) (xs : List Single) → filter p (filter q xs) ≡ filter q (filter p xs)
filter_swap p q [] = refl
filter_swap p q (x ∷ xs) = by (filter_swap p q xs) (p x) refl (q x) refl
  where
    by : filter p (filter q xs) ≡ filter q (filter p xs) → (c : Bool) → p x ≡ c → (d : Bool) → q x ≡ d →
        filter p (if d then x ∷ filter q xs else filter q xs) ≡ filter q (if c then x ∷ filter p xs else filter p xs)
    by rest true is true also = rw (is, also) (ap (λ ys. x ∷ ys) rest)
    by rest true is false other = rw other rest
    by rest false is true also = rw is rest
    by rest false is false other = rest

filter_both : (p q r : Single → Bool) (xs : List Single) → ((x : Single) → r x ≡ (q x && p x)) →
    filter p (filter q xs) ≡ filter r xs
filter_both p q r [] joins = refl
filter_both p q r (x ∷ xs) joins = by (filter_both p q r xs joins) (p x) refl (q x) refl (joins x)
  where
    by : filter p (filter q xs) ≡ filter r xs → (c : Bool) → p x ≡ c → (d : Bool) → q x ≡ d → r x ≡ (q x && p x) →
        filter p (if d then x ∷ filter q xs else filter q xs) ≡ (if r x then x ∷ filter r xs else filter r xs)
    by rest true is true also both = let e : r x ≡ true = both ∙ (rw (also, is) refl) in rw (is, e) (ap (λ ys. x ∷ ys) rest)
    by rest false is true also both = let e : r x ≡ false = both ∙ (rw (also, is) refl) in rw (is, e) rest
    by rest true is false also both = let e : r x ≡ false = both ∙ (rw also refl) in rw e rest
    by rest false is false also both = let e : r x ≡ false = both ∙ (rw also refl) in rw e rest

module _ (sc : Scene) (id : NodeId) (sound : IsSound sc) (i : MapInvariant sc) where
  abbrev more : List Noted
  more = plan_records sc None ++ one_record None (note.Lost id)

  abbrev after : List Noted
  after = sc.recs ++ more

  pub lost_now : (x : NodeId) → is_lost after x ≡ (is_lost sc.recs x || same_node id x)
  lost_now x = lost_parts sc.recs more x ∙ ap (λ (c : Bool). is_lost sc.recs x || c) (or_none (same_node id x))
    where
      or_none : (c : Bool) → (c || false) ≡ c
      or_none true = refl
      or_none false = refl

  pub lives_before : (x : NodeId) → is_lost after x ≡ false → (is_lost sc.recs x ≡ false) × (same_node id x ≡ false)
  lives_before x lives = by (is_lost sc.recs x) (same_node id x) (sym (lost_now x) ∙ lives)
    where
      by : (a b : Bool) → (a || b) ≡ false → (a ≡ false) × (b ≡ false)
      by true b none = absurd (cc (none))
      by false b none = (refl, none)

  abbrev stays : Single → Bool
  stays x = not (same_node x.from id)

  abbrev lived : Single → Bool
  lived x = not (is_lost sc.recs x.from)

  fewer_at : (k : NodeId) (v : TopVer) → filter stays (singles_at sc.recs k v) ≡ singles_at after k v
  fewer_at k v =
      filter_both stays lived (λ (x : Single). not (is_lost after x.from)) (flat_map (single_in v) (recs_of k sc.recs))
      (λ x. ap not (lost_now x.from) ∙ by (is_lost sc.recs x.from) (same_node id x.from) (same_node x.from id)
      (turned id x.from))
      ∙ ap (filter (λ (x : Single). not (is_lost after x.from)))
      (sym (append_none (flat_map (single_in v) (recs_of k sc.recs))) ∙ sym (of_parts (single_in v) k sc.recs more))
    where
      by : (a b c : Bool) → b ≡ c → not (a || b) ≡ (not a && not c)
      by true b c same = refl
      by false b c same = ap not same

  same_maps : (k : NodeId) → maps_by k after ≡ maps_by k sc.recs
  same_maps k = of_parts map_in k sc.recs more ∙ append_none (maps_by k sc.recs)

  -- what is left at another node
  left_singles : (k : NodeId) → same_node id k ≡ false → is_lost sc.recs k ≡ false → (v : TopVer)
      → singles_of_version v (state_after_loss id (is_survivor id k (sc.life k)) (sc.state k)).singles ≡ filter stays
      (singles_of_version v (sc.state k).singles)
  left_singles k other lives v = by (sc.life k) refl
    where
      by : (at : Life) → sc.life k ≡ at →
          singles_of_version v (state_after_loss id (is_survivor id k (sc.life k)) (sc.state k)).singles ≡ filter stays
          (singles_of_version v (sc.state k).singles)
      by life.Alive at = ap (λ (c : Bool). singles_of_version v (state_after_loss id c (sc.state k)).singles)
          (ap (is_survivor id k) at ∙ ap (λ (c : Bool). if c then false else true) other)
          ∙ filter_swap (λ (x : Single). same_top x.top v) stays (sc.state k).singles
      by life.Absent at =
          ap (λ (c : Bool). singles_of_version v (state_after_loss id c (sc.state k)).singles) (ap (is_survivor id k) at
          ∙ ap (λ (c : Bool). if c then false else false) other)
          ∙ ap (λ (xs : List Single). singles_of_version v xs) none
          ∙ sym (ap (λ (xs : List Single). filter stays (singles_of_version v xs)) none)
        where
          none : (sc.state k).singles ≡ []
          none = ap (λ (st : NodeState). st.singles) (sound.absent_fresh k at)
      by life.Gone at = let gone = sound.gone_lost k (ap is_gone at) in absurd (cc (gone, lives))

  pub loses_maps : MapInvariant (scene_after_loss sc id)
  loses_maps = record {
    nodes = λ k lives.
        let before = lives_before k lives in
        let n = i.nodes k before.0 in
        record {
          caches_are = n.caches_are;
          singles_are = λ v above. left_singles k before.1 before.0 v ∙ ap (filter stays) (n.singles_are v above)
              ∙ fewer_at k v;
          has_last = subst (λ (ms : List PartMap). HoldsOfEach (λ (m : PartMap). HasAtLeast m.top (sc.state k).installed) ms)
              (sym (same_maps k)) n.has_last;
          has_first = n.has_first;
        };
    maps = events_more sc.scenario sc.directory.events (topo.Left id ∷ []) [] after
        (noted_parts sc.scenario sc.directory.events [] sc.recs more i.maps (tt, (tt, tt)));
  }
