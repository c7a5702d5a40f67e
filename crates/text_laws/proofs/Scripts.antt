-- The lines of the sessions give the sessions.
use Rattle.std.proofs.Common.{◌≡◌, ℕ, Bool, true, false, zero, suc, List, [], ◌∷◌, ◌++◌, refl, sym, ap, ◌∙◌, subst, append_assoc, inl, inr}
use Rattle.std.specs.Prelude.{◌&&◌, ◌||◌, ◌⊎◌, not, ◌==◌, bytes_eq, codes, slice_get, Option, Some, None, Ok, if◌then◌else◌}
use Rattle.std.specs.Cmp.Lexicographic.{bytes_decides}
use Rattle.std.specs.List.{cons_option, list_all}
use Rattle.std.proofs.lemmas.Bool.{and_parts, and_from, leb-true, not-true, not_from_true, cond_both, eqb-true}
use Rattle.std.proofs.lemmas.List.Folds.{list_all-append}
use Rattle.ignite_types.specs.Good as good
use Rattle.ignite_types.specs.Good.{Long, ObjectKind, Queue, Sequence, are_distinct, good_cache, good_format, good_item, good_key, good_kinds, good_object, good_value, has_cache_line, is_data_cache, is_default, is_name, is_name_byte, is_plain, is_plain_cache, is_text, object_of, open_behind, same_cache_name}
use Rattle.ignite_types.specs.Texts.{is_key_byte}
use Rattle.ignite_types.specs.declared.text.Key.{Key}
use Rattle.ignite_types.specs.declared.scenario.Cache.{Cache}
use Rattle.ignite_types.specs.declared.scenario.Command.{Command}
use Rattle.ignite_types.specs.declared.scenario.Command.TheVariants as command
use Rattle.ignite_types.specs.declared.scenario.Item.{Item}
use Rattle.ignite_types.specs.declared.scenario.Item.TheVariants as item
use Rattle.ignite_types.specs.declared.scenario.Scenario.{Scenario}
use Rattle.scen_text.specs.declared.draft.Draft.{Draft}
use Rattle.scen_text.specs.declared.limits.Kind.{Kind}
use Rattle.scen_text.specs.declared.limits.Kind.TheVariants as kind
use Rattle.scen_text.specs.declared.line.KeyWords.{KeyWords}
use Rattle.scen_text.specs.declared.line.Line.{Line}
use Rattle.scen_text.specs.declared.line.Line.TheVariants as line
use Rattle.scen_text.specs.declared.line.Verb.{Verb}
use Rattle.scen_text.specs.declared.line.Verb.TheVariants as verb
use Rattle.scen_text.specs.declared.place.Place.{Place}
use Rattle.scen_text.specs.declared.place.Place.TheVariants as place
use Rattle.scen_text.specs.Drafts.{draft_after_line, has_room, verb_stands, with_bare, with_item, with_keyed, with_object}
use Rattle.scen_print.specs.Items.{key_text}
use Rattle.scen_text.specs.Known.{cache_place, has_object, is_other, names_data, names_plain, same_object, same_object_kind}
use Rattle.scen_text.specs.Limits.{bare_fits, kind_of, keyed}
use Rattle.scen_text.specs.Places.{in_script, is_outside, place_after}
use Rattle.scen_text.proofs.GoodKept.{kind_seen}
use Rattle.text_laws.proofs.Lines.{item_words}
use Rattle.text_laws.specs.RoundTrip.{has_long}
use Rattle.text_laws.proofs.Caches.{at_all, place_is, none_other}
use Rattle.text_laws.proofs.Means.{Meant, cache_fits, KeyMeant, ObjectMeant, begin_meant, commit_meant, rollback_meant, sleep_meant, get_meant, remove_meant, put_meant, add_meant, incr_meant, next_meant, offer_meant, poll_meant}
use Rattle.text_laws.proofs.Names.{formed, key-read, key-word, key_words, name-read, name_words, object-read, slash-read, slashed-word}
use Rattle.text_laws.proofs.Taken.{taken, taken_meant}

-- keys

-- a key as a line names it
abbrev pub named_key : Cache → Key → KeyWords
named_key c key = record { cache = Some c.name; key = Some (record { cache = 0; text = key.text }) }

-- the cache of a key
record CacheOf (s : Scenario) (key : Key) (is_data : Bool) : Type 0 where
  cache : Cache
  there : slice_get s.caches key.cache ≡ Some cache
  kind : cache.«data» ≡ is_data

plain_of : (s : Scenario) (key : Key) → is_plain_cache (slice_get s.caches key.cache) ≡ true → CacheOf s key false
plain_of s key h = by (slice_get s.caches key.cache) refl h
  where
    by : (o : Option Cache) → slice_get s.caches key.cache ≡ o → is_plain_cache o ≡ true → CacheOf s key false
    by None e h = absurd (cc)
    by (Some c) e h = record { cache = c; there = e; kind = not-true _ h }

data_of : (s : Scenario) (key : Key) → is_data_cache (slice_get s.caches key.cache) ≡ true → CacheOf s key true
data_of s key h = by (slice_get s.caches key.cache) refl h
  where
    by : (o : Option Cache) → slice_get s.caches key.cache ≡ o → is_data_cache o ≡ true → CacheOf s key true
    by None e h = absurd (cc)
    by (Some c) e h = record { cache = c; there = e; kind = h }

-- the formats
pub formats : (f : ℕ) (cs : List Cache) → good_format f cs ≡ true → ((f ≡ 1) × (is_default cs ≡ true)) ⊎ (f ≡ 2)
formats f cs h = by (f == 1) (is_default cs) (f == 2) refl refl refl h
  where
    by : (a b c : Bool) → (f == 1) ≡ a → is_default cs ≡ b → (f == 2) ≡ c → ((a && b) || c) ≡ true →
        ((f ≡ 1) × (is_default cs ≡ true)) ⊎ (f ≡ 2)
    by true true c p q r h = inl (eqb-true f 1 p, q)
    by a b true p q r h = inr (eqb-true f 2 r)
    by false b false p q r h = cc
    by true false false p q r h = cc

-- the one cache of format 1
default_name : (cs : List Cache) (n : ℕ) (c : Cache) → is_default cs ≡ true → slice_get cs n ≡ Some c →
    (c.name ≡ codes "default") × (c.«data» ≡ false)
default_name [] n c h e = absurd (cc)
default_name (x ∷ y ∷ more) n c h e = absurd (cc)
default_name (x ∷ []) zero c h e =
    let same : x ≡ c = cc in
    let parts = and_parts (bytes_eq x.name (codes "default")) (has_cache_line x) h in
    let name : x.name ≡ codes "default" = (bytes_decides x.name (codes "default")).0 parts.0 in
    let plain : x.«data» ≡ false = not-true _ (and_parts x.first (not x.«data») parts.1).1 in
    subst (λ y. (y.name ≡ codes "default") × (y.«data» ≡ false)) same (name, plain)
default_name (x ∷ []) (suc n) c h e = absurd (cc)

-- in format 2 a key stands behind its cache's name and a slash
slashed : (s : Scenario) (key : Key) (c : Cache) → s.format ≡ 2 → slice_get s.caches key.cache ≡ Some c →
    key_text s key ≡ c.name ++ 47 ∷ key.text
slashed s key c two there = rw two (rw there (append_assoc c.name (codes "/") key.text))

key_meant : (s : Scenario) (key : Key) (c : Cache) → good_format s.format s.caches ≡ true →
    slice_get s.caches key.cache ≡ Some c → is_name c.name ≡ true → is_text is_key_byte 32 key.text ≡ true
    → KeyMeant s.format (key_text s key) (named_key c key)
key_meant s key c fits there name text = by (formats s.format s.caches fits)
  where
    by : ((s.format ≡ 1) × (is_default s.caches ≡ true)) ⊎ (s.format ≡ 2) → KeyMeant s.format (key_text s key) (named_key c key)
    by (inl h) =
        let first = h.0 in
        let called = (default_name s.caches key.cache c h.1 there).0 in
        record { word = rw first (key-word key.text text); means = rw first (rw (key-read key.text text) (rw called refl)) }
    by (inr two) =
        let said = slashed s key c two there in
        record {
          word = rw said (slashed-word c.name key.text name (key_words key.text (formed is_key_byte 32 key.text text).all));
          means = rw said (rw two (rw (slash-read c.name key.text name)
              (rw (name-read c.name name) (rw (key-read key.text text) refl))));
        }

object_meant : (s : Scenario) (key : Key) (c : Cache) → s.format ≡ 2 → slice_get s.caches key.cache ≡ Some c →
    is_name c.name ≡ true → is_name key.text ≡ true
    → ObjectMeant (key_text s key) (named_key c key)
object_meant s key c two there name text =
    let said = slashed s key c two there in
    record {
      word = rw said (slashed-word c.name key.text name (name_words key.text (formed is_name_byte 16 key.text text).all));
      means = rw said (rw (slash-read c.name key.text name) (rw (name-read c.name name) (rw (object-read key.text text) refl)));
    }

-- a data cache stands in format 2 alone
data_second : (s : Scenario) (key : Key) (c : Cache) → good_format s.format s.caches ≡ true →
    slice_get s.caches key.cache ≡ Some c → c.«data» ≡ true → s.format ≡ 2
data_second s key c fits there kept = by (formats s.format s.caches fits)
  where
    by : ((s.format ≡ 1) × (is_default s.caches ≡ true)) ⊎ (s.format ≡ 2) → s.format ≡ 2
    by (inr two) = two
    by (inl h) = absurd (let plain = (default_name s.caches key.cache c h.1 there).1 in cc)

-- objects

-- a known object as the definition of good scenarios sees it
abbrev seen : Key × Kind → Key × ObjectKind
seen known = (known.0, kind_seen known.1)

-- none of the known objects is this one with another kind
abbrev pub agrees_with : List (Key × Kind) → Key × ObjectKind → Bool
agrees_with objects object = list_all (λ known. good.agree_in_kind (seen known) object) objects

abbrev with_kind : List (Key × Kind) → Key → Kind → List (Key × Kind)
with_kind objects key k = if has_object objects key then objects else objects ++ (key, k) ∷ []

same_kinds : (a b : Kind) → same_object_kind a b ≡ good.same_kind (kind_seen a) (kind_seen b)
same_kinds kind.Long kind.Long = refl
same_kinds kind.Long kind.Sequence = refl
same_kinds kind.Long kind.Queue = refl
same_kinds kind.Sequence kind.Long = refl
same_kinds kind.Sequence kind.Sequence = refl
same_kinds kind.Sequence kind.Queue = refl
same_kinds kind.Queue kind.Long = refl
same_kinds kind.Queue kind.Sequence = refl
same_kinds kind.Queue kind.Queue = refl

not_other : (objects : List (Key × Kind)) (key : Key) (k : Kind) → agrees_with objects (key, kind_seen k) ≡ true →
    is_other objects key k ≡ false
not_other [] key k h = refl
not_other (known ∷ more) key k h =
    let parts = and_parts (good.agree_in_kind (seen known) (key, kind_seen k)) (agrees_with more (key, kind_seen k)) h in
    rw (same_kinds known.1 k)
    (rw (not_other more key k parts.1) (by (same_object known.0 key) (good.same_kind (kind_seen known.1) (kind_seen k))
    parts.0))
  where
    by : (a b : Bool) → (not a || b) ≡ true → ((a && not b) || false) ≡ false
    by true true h = refl
    by true false h = cc
    by false b h = refl

-- the objects that are still to be read agree with one more that is known
agree_more : (objects : List (Key × Kind)) (key : Key) (k : Kind) (left : List (Key × ObjectKind)) →
    list_all (agrees_with objects) left ≡ true → list_all (good.agree_in_kind (key, kind_seen k)) left ≡ true
    → list_all (agrees_with (with_kind objects key k)) left ≡ true
agree_more objects key k left h g =
    cond_both (has_object objects key) objects (objects ++ (key, k) ∷ []) (λ all. list_all (agrees_with all) left ≡ true)
    (λ e. h) (λ e. each left h g)
  where
    each : (xs : List (Key × ObjectKind)) → list_all (agrees_with objects) xs ≡ true →
        list_all (good.agree_in_kind (key, kind_seen k)) xs ≡ true → list_all (agrees_with (objects ++ (key, k) ∷ [])) xs ≡ true
    each [] h g = refl
    each (x ∷ xs) h g =
        let old = and_parts (agrees_with objects x) (list_all (agrees_with objects) xs) h in
        let new = and_parts (good.agree_in_kind (key, kind_seen k) x) (list_all (good.agree_in_kind (key, kind_seen k)) xs) g in
        and_from (agrees_with (objects ++ (key, k) ∷ []) x) (list_all (agrees_with (objects ++ (key, k) ∷ [])) xs)
        (list_all-append (λ known. good.agree_in_kind (seen known) x) objects ((key, k) ∷ [])
        ∙ and_from (agrees_with objects x) _ old.0 (and_from (good.agree_in_kind (key, kind_seen k) x) true new.0 refl))
        (each xs old.1 new.1)

object_kept : (d : Draft) (key : Key) (k : Kind) → with_object d key (Some k) ≡ record d { objects = with_kind d.objects key k }
object_kept d key k = by (has_object d.objects key)
  where
    by : (b : Bool) → (if b then d else record d { objects = d.objects ++ (key, k) ∷ [] }) ≡ record d {
      objects =
          (if b then d.objects else d.objects ++ (key, k) ∷ []);
    }
    by true = refl
    by false = refl

-- items

-- within a session, and in a block or in none
abbrev pub script_place : Bool → Place
script_place opened = if opened then place.Block else place.Script

-- what is known where an item is read
pub record ItemFits (s : Scenario) (d : Draft) (opened : Bool) (x : Item) (left : List (Key × ObjectKind)) : Type 0 where
  pub format : d.format ≡ s.format
  pub caches : d.caches ≡ s.caches
  pub place : d.place ≡ script_place opened
  pub room : has_room d ≡ true
  pub good : good_item s.caches x ≡ true
  pub long : has_long x ≡ true
  pub free : (is_plain x || not opened) ≡ true
  pub agree : list_all (agrees_with d.objects) (cons_option (object_of x) left) ≡ true
  pub kinds : good_kinds (cons_option (object_of x) left) ≡ true

-- the draft behind an item, with the objects that are known then
abbrev pub behind_item : Draft → Bool → List (Key × Kind) → Item → Draft
behind_item d opened objects x =
    record d {
      place = script_place opened;
      objects = objects;
      session =
          record d.session { commands = d.session.commands ++ x ∷ [] };
    }

pub record ItemTaken (s : Scenario) (d : Draft) (opened : Bool) (x : Item) (left : List (Key × ObjectKind)) : Type 0 where
  pub objects : List (Key × Kind)
  pub took : taken d (item_words s x) ≡ Ok (behind_item d (open_behind opened x) objects x)
  pub agree : list_all (agrees_with objects) left ≡ true
  pub kinds : good_kinds left ≡ true

pub inside : (opened : Bool) → in_script (script_place opened) ≡ true
inside true = refl
inside false = refl

place_behind : (opened : Bool) (x : Item) → place_after (script_place opened) x ≡ script_place (open_behind opened x)
place_behind opened (item.Plain (command.Begin mode timeout)) = refl
place_behind opened (item.Plain (command.Get key)) = refl
place_behind opened (item.Plain (command.Put key value)) = refl
place_behind opened (item.Plain (command.Remove key)) = refl
place_behind opened (item.Plain (command.Add key number)) = refl
place_behind opened (item.Plain command.Commit) = refl
place_behind opened (item.Plain command.Rollback) = refl
place_behind opened (item.Plain (command.Sleep moments)) = refl
place_behind opened (item.Plain command.Close) = refl
place_behind opened (item.Incr key number) = refl
place_behind opened (item.Next key) = refl
place_behind opened (item.Offer key value) = refl
place_behind opened (item.Poll key) = refl

item_is : (d : Draft) (opened : Bool) (x : Item) → d.place ≡ script_place opened →
    with_item d x ≡ behind_item d (open_behind opened x) d.objects x
item_is d opened x p =
    ap (λ at. record d { place = at; session = record d.session { commands = d.session.commands ++ x ∷ [] } })
    (ap (λ at. place_after at x) p ∙ place_behind opened x)

-- a command without a key

bare_step : (d : Draft) (opened : Bool) (c : Command) → d.place ≡ script_place opened → bare_fits c ≡ true → has_room d ≡ true
    → with_bare d c ≡ Ok (behind_item d (open_behind opened (item.Plain c)) d.objects (item.Plain c))
bare_step d opened c p fits room =
    let here : in_script d.place ≡ true = ap in_script p ∙ inside opened in
    rw (here, fits, room) (ap Ok (item_is d opened (item.Plain c) p))

-- a command with a key

keyed_step : (d : Draft) (v : Verb) (c : Cache) (key : Key) (x : Item) → cache_place d.caches c.name ≡ Some key.cache →
    verb_stands d (kind_of v) (Some key.cache) (named_key c key) ≡ true
    → keyed v key ≡ Ok x → has_room d ≡ true →
    with_keyed d v (named_key c key) ≡ Ok (with_item (with_object d key (kind_of v)) x)
keyed_step d v c key x at st means room = rw at (rw st (rw means (rw room refl)))

plain_step : (d : Draft) (opened : Bool) (v : Verb) (c : Cache) (key : Key) (x : Item) → d.place ≡ script_place opened →
    are_distinct same_cache_name d.caches ≡ true
    → slice_get d.caches key.cache ≡ Some c → c.«data» ≡ false → has_room d ≡ true → kind_of v ≡ None → keyed v key ≡ Ok x
    → with_keyed d v (named_key c key) ≡ Ok (behind_item d (open_behind opened x) d.objects x)
plain_step d opened v c key x p distinct there plain room kind means =
    let at = place_is d.caches key.cache c distinct there in
    let here : in_script d.place ≡ true = ap in_script p ∙ inside opened in
    let no_data : names_data d.caches c.name ≡ false = none_other (λ y. y.«data») d.caches key.cache c distinct there plain in
    let st : verb_stands d (kind_of v) (Some key.cache) (named_key c key) ≡ true =
    ap (λ o. verb_stands d o (Some key.cache) (named_key c key)) kind ∙ rw (here, no_data) refl in
    keyed_step d v c key x at st means room ∙ ap Ok (ap (λ o. with_item (with_object d key o) x) kind ∙ item_is d opened x p)

data_step : (d : Draft) (opened : Bool) (v : Verb) (kd : Kind) (c : Cache) (key : Key) (x : Item) →
    d.place ≡ script_place opened → not opened ≡ true → are_distinct same_cache_name d.caches ≡ true
    → slice_get d.caches key.cache ≡ Some c → c.«data» ≡ true → has_room d ≡ true → agrees_with d.objects (key, kind_seen kd)
    ≡ true → kind_of v ≡ Some kd → keyed v key ≡ Ok x
    → with_keyed d v (named_key c key) ≡ Ok (behind_item d (open_behind opened x) (with_kind d.objects key kd) x)
data_step d opened v kd c key x p free distinct there kept room agree kind means =
    let at = place_is d.caches key.cache c distinct there in
    let outside : is_outside d.place ≡ true = ap is_outside (p ∙ ap script_place (not-true opened free)) in
    let no_plain : names_plain d.caches c.name ≡ false = none_other (λ y. not y.«data») d.caches key.cache c distinct there
    (not_from_true c.«data» kept) in
    let other : is_other d.objects key kd ≡ false = not_other d.objects key kd agree in
    let st : verb_stands d (kind_of v) (Some key.cache) (named_key c key) ≡ true =
    ap (λ o. verb_stands d o (Some key.cache) (named_key c key)) kind ∙ rw (outside, no_plain, other) refl in
    keyed_step d v c key x at st means room
    ∙ ap Ok (ap (λ o. with_item (with_object d key o) x) kind ∙ (ap (λ e. with_item e x) (object_kept d key kd)
    ∙ item_is (record d { objects = with_kind d.objects key kd }) opened x p))

taken_as : (d : Draft) (f : ℕ) (ws : List (List ℕ)) (l : Line) → d.format ≡ f → Meant f ws l → taken d ws ≡ draft_after_line d l
taken_as d f ws l e m = taken_meant d ws l (subst (λ x. Meant x ws l) (sym e) m)

-- what is known of a scenario whose items are read
pub record Whole (s : Scenario) : Type 0 where
  pub format : good_format s.format s.caches ≡ true
  pub each : list_all good_cache s.caches ≡ true
  pub distinct : are_distinct same_cache_name s.caches ≡ true

-- a plain command is taken
plain_taken : (s : Scenario) (d : Draft) (opened : Bool) (x : Item) (left : List (Key × ObjectKind)) (l : Line) →
    ItemFits s d opened x left → object_of x ≡ None
    → Meant s.format (item_words s x) l → draft_after_line d l ≡ Ok (behind_item d (open_behind opened x) d.objects x) →
    ItemTaken s d opened x left
plain_taken s d opened x left l f none m step = record {
  objects = d.objects;
  took = taken_as d s.format (item_words s x) l f.format m ∙ step;
  agree = rw none at f.agree;
  kinds = rw none at f.kinds;
}

plain_key : (s : Scenario) (d : Draft) (opened : Bool) (x : Item) (left : List (Key × ObjectKind)) (v : Verb) (key : Key) →
    Whole s → ItemFits s d opened x left → object_of x ≡ None → good_key s.caches key ≡ true
    → kind_of v ≡ None → keyed v key ≡ Ok x → ((k : KeyWords) → KeyMeant s.format (key_text s key) k →
    Meant s.format (item_words s x) (line.Keyed v k)) → ItemTaken s d opened x left
plain_key s d opened x left v key w f none fits kind means m =
    let parts = and_parts (is_text is_key_byte 32 key.text) (is_plain_cache (slice_get s.caches key.cache)) fits in
    let c = plain_of s key parts.1 in
    let fit = cache_fits c.cache (at_all good_cache s.caches key.cache c.cache w.each c.there) in
    let caches = f.caches in
    let distinct : are_distinct same_cache_name d.caches ≡ true = rw caches w.distinct in
    let there : slice_get d.caches key.cache ≡ Some c.cache = rw caches c.there in
    plain_taken s d opened x left (line.Keyed v (named_key c.cache key)) f none
    (m (named_key c.cache key) (key_meant s key c.cache w.format c.there fit.name parts.0))
    (plain_step d opened v c.cache key x f.place distinct there c.kind f.room kind means)

-- a data command is taken
data_taken : (s : Scenario) (d : Draft) (opened : Bool) (x : Item) (left : List (Key × ObjectKind)) (v : Verb) (kd : Kind)
    (key : Key) → Whole s → ItemFits s d opened x left
    → object_of x ≡ Some (key, kind_seen kd) → is_plain x ≡ false → good_object s.caches key ≡ true → kind_of v ≡ Some kd →
    keyed v key ≡ Ok x
    → ((k : KeyWords) → ObjectMeant (key_text s key) k → Meant 2 (item_words s x) (line.Keyed v k)) →
    ItemTaken s d opened x left
data_taken s d opened x left v kd key w f is data_one fits kind means m =
    let parts = and_parts (is_name key.text) (is_data_cache (slice_get s.caches key.cache)) fits in
    let c = data_of s key parts.1 in
    let two = data_second s key c.cache w.format c.there c.kind in
    let fit = cache_fits c.cache (at_all good_cache s.caches key.cache c.cache w.each c.there) in
    let caches = f.caches in
    let distinct : are_distinct same_cache_name d.caches ≡ true = rw caches w.distinct in
    let there : slice_get d.caches key.cache ≡ Some c.cache = rw caches c.there in
    let agree : list_all (agrees_with d.objects) ((key, kind_seen kd) ∷ left) ≡ true = rw is at f.agree in
    let kinds : good_kinds ((key, kind_seen kd) ∷ left) ≡ true = rw is at f.kinds in
    let free : not opened ≡ true = rw data_one at f.free in
    let now = and_parts (agrees_with d.objects (key, kind_seen kd)) (list_all (agrees_with d.objects) left) agree in
    let later = and_parts (list_all (good.agree_in_kind (key, kind_seen kd)) left) (good_kinds left) kinds in
    record {
      objects = with_kind d.objects key kd;
      took = taken_as d 2 (item_words s x) (line.Keyed v (named_key c.cache key)) (f.format ∙ two)
          (m (named_key c.cache key) (object_meant s key c.cache two c.there fit.name parts.0))
          ∙ data_step d opened v kd c.cache key x f.place free distinct there c.kind f.room now.0 kind means;
      agree = agree_more d.objects key kd left now.1 later.0;
      kinds = later.1;
    }

pub item_taken : (s : Scenario) (d : Draft) (opened : Bool) (x : Item) (left : List (Key × ObjectKind)) → Whole s →
    ItemFits s d opened x left → ItemTaken s d opened x left
item_taken s d opened (item.Plain (command.Begin mode timeout)) left w f =
    plain_taken s d opened _ left _ f refl (begin_meant s.format timeout mode (leb-true timeout 1000000 f.good))
    (bare_step d opened (command.Begin mode timeout) f.place f.good f.room)
item_taken s d opened (item.Plain (command.Get key)) left w f =
    plain_key s d opened _ left verb.Get key w f refl f.good refl refl (λ k h. get_meant s.format (key_text s key) k h)
item_taken s d opened (item.Plain (command.Put key value)) left w f =
    let parts = and_parts (good_key s.caches key) (good_value value) f.good in
    plain_key s d opened _ left (verb.Put (Some value)) key w f refl parts.0 refl refl
    (λ k h. put_meant s.format (key_text s key) value k h parts.1)
item_taken s d opened (item.Plain (command.Remove key)) left w f =
    plain_key s d opened _ left verb.Remove key w f refl f.good refl refl (λ k h. remove_meant s.format (key_text s key) k h)
item_taken s d opened (item.Plain (command.Add key number)) left w f =
    plain_key s d opened _ left (verb.Add number) key w f refl f.good refl refl
    (λ k h. add_meant s.format (key_text s key) number k h f.long)
item_taken s d opened (item.Plain command.Commit) left w f = plain_taken s d opened _ left _ f refl (commit_meant s.format)
    (bare_step d opened command.Commit f.place refl f.room)
item_taken s d opened (item.Plain command.Rollback) left w f =
    plain_taken s d opened _ left _ f refl (rollback_meant s.format) (bare_step d opened command.Rollback f.place refl f.room)
item_taken s d opened (item.Plain (command.Sleep moments)) left w f =
    plain_taken s d opened _ left _ f refl (sleep_meant s.format moments f.good)
    (bare_step d opened (command.Sleep moments) f.place f.good f.room)
item_taken s d opened (item.Plain command.Close) left w f = absurd (let g = f.good in cc)
item_taken s d opened (item.Incr key number) left w f =
    data_taken s d opened _ left (verb.Incr number) kind.Long key w f refl refl f.good refl refl
    (λ k h. incr_meant (key_text s key) number k h f.long)
item_taken s d opened (item.Next key) left w f = data_taken s d opened _ left verb.Next kind.Sequence key w f refl refl f.good
    refl refl (λ k h. next_meant (key_text s key) k h)
item_taken s d opened (item.Offer key value) left w f =
    let parts = and_parts (good_object s.caches key) (good_value value) f.good in
    data_taken s d opened _ left (verb.Offer (Some value)) kind.Queue key w f refl refl parts.0 refl refl
    (λ k h. offer_meant (key_text s key) value k h parts.1)
item_taken s d opened (item.Poll key) left w f = data_taken s d opened _ left verb.Poll kind.Queue key w f refl refl f.good
    refl refl (λ k h. poll_meant (key_text s key) k h)
