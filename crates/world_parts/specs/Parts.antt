-- A world in parts: the directory, and each declared node with its inbox.
use Rattle.std.specs.Prelude.{Option, Some, None, [], ◌∷◌, ℕ, ◌*◌, suc, zero, false, length, map, position}
use Rattle.part_model.specs.Directory.{Directory, node_of, opening_directory}
use Rattle.part_model.specs.Links.{Inbox, new_inbox}
use Rattle.ignite_types.specs.Names.{same_node}
use Rattle.ignite_types.specs.declared.list.List.{List}
use Rattle.ignite_types.specs.declared.names.NodeId.{NodeId}
use Rattle.ignite_types.specs.declared.scenario.Scenario.{Scenario}
use Rattle.tx_model.specs.Opening.{declared_nodes, ids_of, opening, session_nodes_from}
use Rattle.tx_model.specs.World.{Part, World, inbox_on, part_at, place_of}
use Rattle.scenes.specs.Scenes.{part_or_absent}
use Rattle.world_parts.specs.declared.parts.WorldPart.{WorldPart}
use Rattle.world_parts.specs.declared.parts.WorldPart.TheVariants as part

abbrev pub PartValue : Type 0
PartValue = WorldPart Directory Part Inbox

-- The numbers of parts.

-- the declared nodes, those of node lines first, then those that join by the plan
abbrev pub declared_ids : Scenario → List NodeId
declared_ids s = map node_of (declared_nodes s)

abbrev pub declared_place : Scenario → NodeId → Option ℕ
declared_place s id = position (λ (x : NodeId). same_node x id) (declared_ids s)

-- the directory is part 0, and the k-th declared node, from 0, has the two parts behind those of the nodes before it
abbrev pub node_part : ℕ → ℕ
node_part k = suc (2 * k)

abbrev pub inbox_part : ℕ → ℕ
inbox_part k = suc (suc (2 * k))

abbrev pub part_count : Scenario → ℕ
part_count s = suc (2 * length (declared_ids s))

-- From a world to its parts.

abbrev pub inbox_or_new : Option Inbox → Inbox
inbox_or_new None = new_inbox []
inbox_or_new (Some b) = b

-- no part has this number
abbrev pub no_part : Scenario → PartValue
no_part s = part.Directory (opening_directory s)

-- the values of these nodes and of their inboxes, by number from 0
abbrev pub pair_values : Scenario → (NodeId → Part) → (NodeId → Inbox) → List NodeId → ℕ → PartValue
pair_values s nodes inboxes [] p = no_part s
pair_values s nodes inboxes (id ∷ ids) zero = part.Node (nodes id)
pair_values s nodes inboxes (id ∷ ids) (suc zero) = part.Inbox (inboxes id)
pair_values s nodes inboxes (id ∷ ids) (suc (suc p)) = pair_values s nodes inboxes ids p

abbrev pub node_of_world : Scenario → World → NodeId → Part
node_of_world s w id = part_or_absent s id (part_at w id)

abbrev pub inbox_of_world : World → NodeId → Inbox
inbox_of_world w id = inbox_or_new (inbox_on w (place_of w id))

-- the value of each part of a world
abbrev pub parts_of : Scenario → World → ℕ → PartValue
parts_of s w zero = part.Directory w.directory
parts_of s w (suc p) = pair_values s (node_of_world s w) (inbox_of_world w) (declared_ids s) p

abbrev pub opening_values : Scenario → ℕ → PartValue
opening_values s = parts_of s (opening s)

-- From parts to their world.

abbrev pub directory_in : Scenario → PartValue → Directory
directory_in s (part.Directory d) = d
directory_in s _ = opening_directory s

abbrev pub node_in : Scenario → NodeId → PartValue → Part
node_in s id (part.Node p) = p
node_in s id _ = part_or_absent s id None

abbrev pub inbox_in : PartValue → Inbox
inbox_in (part.Inbox b) = b
inbox_in _ = new_inbox []

-- what is at a number that is told by a place
abbrev pub value_at : Scenario → (ℕ → PartValue) → (ℕ → ℕ) → Option ℕ → PartValue
value_at s f number None = no_part s
value_at s f number (Some k) = f (number k)

-- the world with these parts, in which no node is broken
abbrev pub world_of : Scenario → (ℕ → PartValue) → World
world_of s f = record {
  directory = directory_in s (f 0);
  parts = map (λ (id : NodeId). node_in s id (value_at s f node_part (declared_place s id))) (ids_of s);
  inboxes = map (λ (id : NodeId). inbox_in (value_at s f inbox_part (declared_place s id))) (ids_of s);
  session_nodes = session_nodes_from 1 [] s.sessions;
  broken = false;
}
