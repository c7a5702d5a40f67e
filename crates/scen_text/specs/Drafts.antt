-- What a line makes of what was read before it, or the rule that refuses it: the rules of a line are tried in the order
-- in which they stand here.
use Rattle.std.specs.Prelude.{ℕ, ◌+◌, Bool, true, false, ◌&&◌, not, ◌==◌, nat_lt, nat_le, List, [], ◌∷◌, ◌++◌, length, Option, Some, None, Result, Ok, Err, if◌then◌else◌}
use Rattle.std.specs.Option.{unwrap_or}
use Rattle.ignite_types.specs.Good.{has_member, is_within}
use Rattle.ignite_types.specs.declared.limits.TheConstants.{CACHES, COMMANDS, MOMENTS, NODES, NODE_NUMBERS, PARTITIONS, SESSIONS, STEPS}
use Rattle.ignite_types.specs.declared.names.NodeId.{NodeId}
use Rattle.ignite_types.specs.declared.text.Key.{Key}
use Rattle.ignite_types.specs.declared.scenario.Command.{Command}
use Rattle.ignite_types.specs.declared.scenario.Item.{Item}
use Rattle.ignite_types.specs.declared.scenario.Item.TheVariants.{Plain}
use Rattle.ignite_types.specs.declared.scenario.Member.{Member}
use Rattle.ignite_types.specs.declared.scenario.Scenario.{Scenario}
use Rattle.ignite_types.specs.declared.scenario.Session.{Session}
use Rattle.ignite_types.specs.declared.scenario.Step.{Step}
use Rattle.ignite_types.specs.declared.scenario.Step.TheVariants as step
use Rattle.scen_text.specs.declared.cause.Cause.{Cause}
use Rattle.scen_text.specs.declared.cause.Cause.TheVariants.{Syntax, Limit, NoSuchNode, DoubleName, Missing}
use Rattle.scen_text.specs.declared.cause.What.TheVariants as what
use Rattle.scen_text.specs.declared.draft.Draft.{Draft}
use Rattle.scen_text.specs.declared.limits.Kind.{Kind}
use Rattle.scen_text.specs.declared.line.CacheWords.{CacheWords}
use Rattle.scen_text.specs.declared.line.KeyWords.{KeyWords}
use Rattle.scen_text.specs.declared.line.Line.{Line}
use Rattle.scen_text.specs.declared.line.Line.TheVariants as line
use Rattle.scen_text.specs.declared.line.Setting.{Setting}
use Rattle.scen_text.specs.declared.line.Verb.{Verb}
use Rattle.scen_text.specs.declared.place.Place.TheVariants as place
use Rattle.scen_text.specs.Causes.{◌>>=◌, rule, fit}
use Rattle.scen_text.specs.Known.{agrees_with_known, cache_line_place, cache_what, has_cache, has_line, has_object, has_server, has_session, is_named, is_stopped, key_in_cache, known_cache, member_what, names_data_here, names_first, names_plain_here, place_named, place_of_key, rises}
use Rattle.scen_text.specs.Limits.{default_settings, set, setting_fits, setting_what, default_cache, cache_of, nodes_fit, bare_fits, bare_what, kind_of, keyed}
use Rattle.scen_text.specs.Meaning.{line_meant}
use Rattle.scen_text.specs.Places as places
use Rattle.scen_text.specs.Places.{in_script, is_outside, is_start_place, may_follow, place_after, place_of_setting, stands_once}

abbrev pub no_session : Session
no_session = record { name = []; node = record { 0 = 0 }; commands = [] }

-- before the first line of a text whose lines name these nodes
abbrev pub empty : List NodeId → Draft
empty named = record {
  named = named;
  place = place.Start;
  format = 1;
  settings = default_settings;
  caches = [];
  partitions = 0;
  nodes = [];
  members = [];
  plan = [];
  objects = [];
  sessions = [];
  session = no_session;
}

-- the line of the format, which is the first
abbrev pub with_head : Draft → ℕ → Result Draft Cause
with_head draft format = do
  _ ← rule (is_start_place draft.place) Syntax
  Ok (record draft {
    place = place.Head;
    format = format;
    caches = (if format == 1 then default_cache draft.settings ∷ [] else []);
  })

-- a setting of format 1
abbrev pub with_setting : Draft → Setting → ℕ → Result Draft Cause
with_setting draft setting n = do
  _ ← rule (stands_once draft.place (place_of_setting setting)) Syntax
  _ ← rule (setting_fits setting n) (Limit (setting_what setting))
  Ok (record draft {
    place = place_of_setting setting;
    settings = set draft.settings setting n;
    caches = default_cache (set draft.settings setting n) ∷ [];
  })

-- the partitions of all caches and so many more, where one more cache has room
abbrev pub total_with : Draft → ℕ → Result ℕ Cause
total_with draft parts =
    if nat_lt (length draft.caches) CACHES && nat_le (draft.partitions + parts) PARTITIONS then Ok (draft.partitions + parts)
    else Err (Limit what.Caches)

-- a cache, or a data cache
abbrev pub with_cache : Draft → Bool → CacheWords → Result Draft Cause
with_cache draft is_data words = do
  _ ← rule (may_follow draft.place (cache_line_place is_data)) Syntax
  cache ← cache_of (cache_what is_data) true is_data words
  total ← total_with draft cache.parts
  _ ← rule (not (has_cache draft.caches cache.name)) DoubleName
  Ok (record draft { place = cache_line_place is_data; caches = draft.caches ++ cache ∷ []; partitions = total })

-- a node
abbrev pub draft_with_member : Draft → Member → Result Draft Cause
draft_with_member draft member = do
  _ ← rule (may_follow draft.place place.Nodes) Syntax
  _ ← rule (is_within 1 NODE_NUMBERS member.node.0) (Limit (member_what member.server))
  _ ← rule (nat_lt (length draft.members) NODES) (Limit what.Nodes)
  _ ← rule (not (has_member draft.members member.node)) DoubleName
  Ok (record draft { place = place.Nodes; nodes = draft.nodes ++ member ∷ []; members = draft.members ++ member ∷ [] })

-- one more step of the plan
abbrev pub draft_with_step : Draft → ℕ → Step → Draft
draft_with_step draft moment s =
    record draft { place = place.Plan; plan = draft.plan ++ record { moment = moment; step = s } ∷ [] }

-- a step by which a node joins
abbrev pub with_join : Draft → ℕ → Member → Result Draft Cause
with_join draft moment member = do
  _ ← rule (may_follow draft.place place.Plan) Syntax
  _ ← rule (is_within 1 MOMENTS moment) (Limit what.Moment)
  _ ← rule (is_within 1 NODE_NUMBERS member.node.0) (Limit what.Plan)
  _ ← rule (rises draft.plan moment) (Limit what.Moment)
  _ ← rule (nat_lt (length draft.members) NODES) (Limit what.Nodes)
  _ ← rule (nat_lt (length draft.plan) STEPS) (Limit what.Steps)
  _ ← rule (not (has_member draft.members member.node)) DoubleName
  Ok (draft_with_step (record draft { members = draft.members ++ member ∷ [] }) moment (step.Join member))

-- each node of a step is named by a line of the text
abbrev pub nodes_named : List NodeId → Step → Bool
nodes_named named (step.Lose n) = is_named named n
nodes_named named (step.Hold sender addressee) = is_named named sender && is_named named addressee
nodes_named named (step.Release sender addressee) = is_named named sender && is_named named addressee
nodes_named named _ = true

-- a step that loses a node, or holds or releases a link
abbrev pub with_links : Draft → ℕ → Step → Result Draft Cause
with_links draft moment s = do
  _ ← rule (may_follow draft.place place.Plan) Syntax
  _ ← rule (is_within 1 MOMENTS moment) (Limit what.Moment)
  _ ← rule (nodes_fit s) (Limit what.Plan)
  _ ← rule (rises draft.plan moment) (Limit what.Moment)
  _ ← rule (nat_lt (length draft.plan) STEPS) (Limit what.Steps)
  _ ← rule (nodes_named draft.named s) NoSuchNode
  Ok (draft_with_step draft moment s)

-- a step that starts a cache
abbrev pub with_start : Draft → ℕ → CacheWords → Result Draft Cause
with_start draft moment words = do
  _ ← rule (may_follow draft.place place.Plan && not (names_data_here draft.caches words.name)) Syntax
  _ ← rule (is_within 1 MOMENTS moment) (Limit what.Moment)
  cache ← cache_of what.Plan false false words
  _ ← rule (rises draft.plan moment) (Limit what.Moment)
  _ ← rule (nat_lt (length draft.plan) STEPS) (Limit what.Steps)
  total ← total_with draft cache.parts
  _ ← rule (not (has_cache draft.caches cache.name)) DoubleName
  Ok (draft_with_step (record draft { caches = draft.caches ++ cache ∷ []; partitions = total }) moment
      (step.Start (length draft.caches)))

-- a step that stops a cache
abbrev pub with_stop : Draft → ℕ → Option (List ℕ) → Result Draft Cause
with_stop draft moment name = do
  _ ← rule (may_follow draft.place place.Plan && not (names_data_here draft.caches name)
      && not (names_first draft.caches name)) Syntax
  _ ← rule (is_within 1 MOMENTS moment) (Limit what.Moment)
  called ← fit name what.Name
  _ ← rule (rises draft.plan moment) (Limit what.Moment)
  _ ← rule (nat_lt (length draft.plan) STEPS) (Limit what.Steps)
  number ← known_cache (place_named draft.caches (Some called))
  _ ← rule (not (is_stopped draft.plan number)) DoubleName
  Ok (draft_with_step draft moment (step.Stop number))

-- a session begins
abbrev pub with_session : Draft → Option (List ℕ) → NodeId → Result Draft Cause
with_session draft name node = do
  _ ← rule (may_follow draft.place place.Sessions) Syntax
  called ← fit name what.Name
  _ ← rule (is_within 1 NODE_NUMBERS node.0) (Limit what.Session)
  _ ← rule (nat_lt (length draft.sessions) SESSIONS) (Limit what.Sessions)
  _ ← rule (is_named draft.named node) NoSuchNode
  _ ← rule (not (has_session draft.sessions called)) DoubleName
  Ok (record draft { place = place.Script; session = record { name = called; node = node; commands = [] } })

-- one more command of the session
abbrev pub with_item : Draft → Item → Draft
with_item draft item =
    record draft {
      place = place_after draft.place item;
      session =
          record draft.session { commands = draft.session.commands ++ item ∷ [] };
    }

abbrev pub has_room : Draft → Bool
has_room draft = nat_lt (length draft.session.commands) COMMANDS

-- a command without a key
abbrev pub with_bare : Draft → Command → Result Draft Cause
with_bare draft command = do
  _ ← rule (in_script draft.place) Syntax
  _ ← rule (bare_fits command) (Limit (bare_what command))
  _ ← rule (has_room draft) (Limit what.Commands)
  Ok (with_item draft (Plain command))

-- a data command stands in no block, names no cache that is none of data, and no object of another kind; a plain command
-- names no data cache
abbrev pub verb_stands : Draft → Option Kind → Option ℕ → KeyWords → Bool
verb_stands draft (Some kind) place key =
    is_outside draft.place && not (names_plain_here draft.caches key.cache)
    && agrees_with_known draft.objects place key.key kind
verb_stands draft None place key = in_script draft.place && not (names_data_here draft.caches key.cache)

-- the first command that names an object says what it is
abbrev pub with_object : Draft → Key → Option Kind → Draft
with_object draft key (Some kind) =
    if has_object draft.objects key then draft else record draft { objects = draft.objects ++ (key, kind) ∷ [] }
with_object draft key None = draft

-- a command with a key
abbrev pub with_keyed : Draft → Verb → KeyWords → Result Draft Cause
with_keyed draft verb key = do
  _ ← rule (verb_stands draft (kind_of verb) (place_of_key draft.caches key) key) Syntax
  _ ← fit key.cache what.Name
  text ← fit key.key what.Key
  item ← keyed verb (key_in_cache (unwrap_or (place_of_key draft.caches key) 0) text)
  _ ← rule (has_room draft) (Limit what.Commands)
  _ ← known_cache (place_of_key draft.caches key)
  Ok (with_item (with_object draft (key_in_cache (unwrap_or (place_of_key draft.caches key) 0) text) (kind_of verb)) item)

-- a session ends
abbrev pub with_end : Draft → Result Draft Cause
with_end draft = do
  _ ← rule (in_script draft.place) Syntax
  Ok (record draft { place = place.Sessions; sessions = draft.sessions ++ draft.session ∷ []; session = no_session })

-- what is read behind one more line
abbrev pub draft_after_line : Draft → Line → Result Draft Cause
draft_after_line draft line.Blank = Ok draft
draft_after_line draft (line.Head format) = with_head draft format
draft_after_line draft (line.Setting setting n) = with_setting draft setting n
draft_after_line draft (line.Cache is_data words) = with_cache draft is_data words
draft_after_line draft (line.Member member) = draft_with_member draft member
draft_after_line draft (line.Join moment member) = with_join draft moment member
draft_after_line draft (line.Links moment s) = with_links draft moment s
draft_after_line draft (line.Start moment words) = with_start draft moment words
draft_after_line draft (line.Stop moment name) = with_stop draft moment name
draft_after_line draft (line.Session name node) = with_session draft name node
draft_after_line draft (line.Bare command) = with_bare draft command
draft_after_line draft (line.Keyed verb key) = with_keyed draft verb key
draft_after_line draft line.End = with_end draft

abbrev pub line_taken : Draft → List ℕ → Result Draft Cause
line_taken draft bytes = line_meant draft.format bytes >>= λ meant. draft_after_line draft meant

-- nothing is missing: the first line, an `end`, a server, and a cache line, which format 1 needs not
abbrev pub is_whole_draft : Draft → Bool
is_whole_draft draft = places.is_outside_session draft.place && has_server draft.nodes && has_line draft.caches

-- the scenario, where the text ends
abbrev pub finished : Draft → Result Scenario Cause
finished draft = do
  _ ← rule (is_whole_draft draft) Missing
  Ok (record {
    format = draft.format;
    caches = draft.caches;
    nodes = draft.nodes;
    plan = draft.plan;
    sessions =
        draft.sessions;
  })
