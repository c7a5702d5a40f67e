-- The history as JSON: the commits in the order of their decisions, and the map after them.
use Rattle.std.specs.Prelude.{List, None, Option, Some, [], codes, encode_utf8, ℕ, ◌++◌, ◌∷◌}
use Rattle.ignite_types.specs.declared.scenario.Scenario.{Scenario}
use Rattle.ignite_types.specs.declared.text.Key.{Key}
use Rattle.report_text.specs.Answers.{top_text, tx_text}
use Rattle.scen_print.specs.Items.{key_text}
use Rattle.serde_json.specs.Data.{Data, Items, Members, array, item, member, no_items, no_members, null, object, put, string}
use Rattle.serde_json.specs.Written.{compact_text}
use Rattle.tx_model.specs.History.{Map, map_after_commits}
use Rattle.tx_model.specs.declared.history.CommitEntry.{CommitEntry}

-- each byte as the character of its number: what a scenario names has bytes below 128, which stay as they are
abbrev pub characters : List ℕ → List ℕ
characters [] = []
characters (b ∷ bs) = encode_utf8 b ++ characters bs

-- a text, or null for an absent or a removed value
abbrev pub value_data : Option (List ℕ) → Data
value_data None = null
value_data (Some value) = string (characters value)

-- the values by the texts of their keys, in the order of these texts
abbrev pub by_text : Scenario → Members → List (Key × Option (List ℕ)) → Members
by_text s ms [] = ms
by_text s ms (c ∷ cs) = by_text s (put (characters (key_text s c.0)) (value_data c.1) ms) cs

-- `["KEY","VALUE"]`
abbrev pub pair_data : List ℕ → Data → Data
pair_data key value = array (item (string key) (item value no_items))

abbrev pub pairs : Members → Items
pairs no_members = no_items
pairs (member key value ms) = item (pair_data key value) (pairs ms)

abbrev pub changes_data : Scenario → List (Key × Option (List ℕ)) → Data
changes_data s changes = array (pairs (by_text s no_members changes))

-- a commit: its reads, version, name and writes
abbrev pub commit_data : Scenario → CommitEntry → Data
commit_data s e = object
    (member (codes "reads") (changes_data s e.reads)
    (member (codes "top") (string (characters (top_text e.top)))
    (member (codes "tx") (string (characters (tx_text s e.tx)))
    (member (codes "writes") (changes_data s e.writes) no_members))))

abbrev pub commits_data : Scenario → List CommitEntry → Items
commits_data s [] = no_items
commits_data s (e ∷ es) = item (commit_data s e) (commits_data s es)

-- an entry of the map, as what is at its key
abbrev pub present_pairs : Map → List (Key × Option (List ℕ))
present_pairs [] = []
present_pairs (e ∷ es) = (e.0, Some e.1) ∷ present_pairs es

-- the history, and the map after it, stopped caches included
abbrev pub history_data : Scenario → List CommitEntry → Data
history_data s commits = object
    (member (codes "history") (array (commits_data s commits))
    (member (codes "map") (changes_data s (present_pairs (map_after_commits [] commits))) no_members))

-- the compact text, and a line feed
abbrev pub history_json : Scenario → List CommitEntry → List ℕ
history_json s commits = compact_text (history_data s commits) ++ (10 ∷ [])
