-- Commands keep what is known of a draft.
use Rattle.std.proofs.Common.{◌≡◌, ℕ, ◌<◌, Bool, true, false, List, [], ◌∷◌, ◌++◌, length, refl, ap, sym, ◌∙◌, subst, arith, length-append, append-nil, append_assoc}
use Rattle.std.specs.Prelude.{◌&&◌, ◌||◌, not, ◌==◌, nat_le, filter_map, flat_map, bytes_eq, Option, Some, None, Result, Ok}
use Rattle.std.specs.List.{list_all}
use Rattle.std.proofs.lemmas.Bool.{and_parts, and_from, or_left, or_right, eqb-true, eq-eqb, le-leb}
use Rattle.std.proofs.lemmas.List.Folds.{list_any-append}
use Rattle.std.proofs.lemmas.List.Elements.{filter_map-append}
use Rattle.std.proofs.lemmas.Slice.Eq.{bytes_eq-Decides}
use Rattle.ignite_types.specs.Good.{ObjectKind, agree_in_kind, good_blocks, good_command, good_item, good_key, good_kinds, good_object, good_value, is_name, is_plain, object_of, open_behind}
use Rattle.ignite_types.specs.Good as good
use Rattle.ignite_types.specs.declared.names.NodeId.{NodeId}
use Rattle.ignite_types.specs.declared.text.Key.{Key}
use Rattle.ignite_types.specs.declared.scenario.Cache.{Cache}
use Rattle.ignite_types.specs.declared.scenario.Command.{Command}
use Rattle.ignite_types.specs.declared.scenario.Command.TheVariants as command
use Rattle.ignite_types.specs.declared.scenario.Item.{Item}
use Rattle.ignite_types.specs.declared.scenario.Item.TheVariants as item
use Rattle.ignite_types.specs.declared.scenario.Session.{Session}
use Rattle.scen_text.specs.declared.cause.Cause.{Cause}
use Rattle.scen_text.specs.declared.limits.Kind.{Kind}
use Rattle.scen_text.specs.declared.limits.Kind.TheVariants as kind
use Rattle.scen_text.specs.declared.line.Verb.{Verb}
use Rattle.scen_text.specs.declared.line.Verb.TheVariants as verb
use Rattle.scen_text.specs.declared.place.Place.{Place}
use Rattle.scen_text.specs.declared.place.Place.TheVariants as place
use Rattle.scen_text.specs.Known.{has_object, is_other, same_object, same_object_kind}
use Rattle.scen_text.specs.Limits.{bare_fits, kind_of, keyed}
use Rattle.scen_text.specs.Places.{in_script, is_start_place, place_after, rank}
use Rattle.scen_text.proofs.GoodKept.{open_after, is_block, kind_seen, in_table, objects_in, ObjectsOf, good_script}
use Rattle.scen_text.proofs.GoodLines.{GoodValue, is_bare}
use Rattle.scen_text.proofs.GoodLists.{pushed_all, none_of}

-- places

pub script_after : (p : Place) (x : Item) → in_script p ≡ true → in_script (place_after p x) ≡ true
script_after p (item.Plain (command.Begin m t)) h = refl
script_after p (item.Plain command.Commit) h = refl
script_after p (item.Plain command.Rollback) h = refl
script_after p _ h = h

pub script_rank : (p : Place) → in_script p ≡ true → rank p ≡ 10
script_rank place.Script h = refl
script_rank place.Block h = refl
script_rank _ h = cc

pub script_started : (p : Place) → in_script p ≡ true → is_start_place p ≡ false
script_started place.Script h = refl
script_started place.Block h = refl
script_started _ h = cc

pub block_after : (p : Place) (x : Item) → open_behind (is_block p) x ≡ is_block (place_after p x)
block_after p (item.Plain (command.Begin m t)) = refl
block_after p (item.Plain command.Commit) = refl
block_after p (item.Plain command.Rollback) = refl
block_after p _ = refl

-- one more command of a session

open-pushed : (opened : Bool) (xs : List Item) (x : Item) →
    open_after opened (xs ++ x ∷ []) ≡ open_behind (open_after opened xs) x
open-pushed opened [] x = refl
open-pushed opened (y ∷ ys) x = open-pushed (open_behind opened y) ys x

blocks-pushed : (opened : Bool) (xs : List Item) (x : Item) → good_blocks opened xs ≡ true →
    (is_plain x || not (open_after opened xs)) ≡ true → good_blocks opened (xs ++ x ∷ []) ≡ true
blocks-pushed opened [] x h p = and_from (is_plain x || not opened) true p refl
blocks-pushed opened (y ∷ ys) x h p =
    let parts = and_parts (is_plain y || not opened) (good_blocks (open_behind opened y) ys) h in
    and_from (is_plain y || not opened) (good_blocks (open_behind opened y) (ys ++ x ∷ [])) parts.0
    (blocks-pushed (open_behind opened y) ys x parts.1 p)

pub open_now : (p : Place) (xs : List Item) (x : Item) → open_after false xs ≡ is_block p →
    open_after false (xs ++ x ∷ []) ≡ is_block (place_after p x)
open_now p xs x h = open-pushed false xs x ∙ (rw h (block_after p x))

pub script-pushed : (named : List NodeId) (caches : List Cache) (s : Session) (x : Item) → good_script named caches s ≡ true →
    length s.commands < 1000 → good_item caches x ≡ true
    → (is_plain x || not (open_after false s.commands)) ≡ true →
    good_script named caches (record s { commands = s.commands ++ x ∷ [] }) ≡ true
script-pushed named caches s x h few g p =
    let a = and_parts (is_name s.name && _ && nat_le (length s.commands) 1000 && list_all (good_item caches) s.commands)
    (good_blocks false s.commands) h in
    let b = and_parts (is_name s.name && _ && nat_le (length s.commands) 1000) (list_all (good_item caches) s.commands) a.0 in
    let c = and_parts (is_name s.name && _) (nat_le (length s.commands) 1000) b.0 in
    and_from _ (good_blocks false (s.commands ++ x ∷ []))
    (and_from _ (list_all (good_item caches) (s.commands ++ x ∷ []))
    (and_from _ (nat_le (length (s.commands ++ x ∷ [])) 1000) c.0
    (le-leb _ _ (omega (arith, length-append s.commands (x ∷ [])))))
    (pushed_all (good_item caches) s.commands x b.1 g))
    (blocks-pushed false s.commands x a.1 p)

-- which commands are good

pub bare-good : (caches : List Cache) (c : Command) → is_bare c ≡ true → bare_fits c ≡ true → good_command caches c ≡ true
bare-good caches (command.Begin m t) b f = f
bare-good caches command.Commit b f = refl
bare-good caches command.Rollback b f = refl
bare-good caches (command.Sleep m) b f = f
bare-good caches (command.Get k) b f = cc
bare-good caches (command.Put k v) b f = cc
bare-good caches (command.Remove k) b f = cc
bare-good caches (command.Add k n) b f = cc
bare-good caches command.Close b f = cc

abbrev pub GoodFor : List Cache → Key → Option Kind → Type 0
GoodFor caches k None = good_key caches k ≡ true
GoodFor caches k (Some _) = good_object caches k ≡ true

abbrev pub value_of : Verb → Option (List ℕ)
value_of (verb.Put v) = v
value_of (verb.Offer v) = v
value_of _ = None

abbrev pub object_seen : Key → Option Kind → Option (Key × ObjectKind)
object_seen k (Some kd) = Some (k, kind_seen kd)
object_seen k None = None

abbrev pub plain_kind : Option Kind → Bool
plain_kind (Some k) = false
plain_kind None = true

pub record Made (caches : List Cache) (k : Key) (kd : Option Kind) (x : Item) : Type 0 where
  pub good : good_item caches x ≡ true
  pub plain : is_plain x ≡ plain_kind kd
  pub object : object_of x ≡ object_seen k kd

abbrev answered : Item → Result Item Cause
answered x = Ok x

made_as : (caches : List Cache) (k : Key) (kd : Option Kind) (x y : Item) → Made caches k kd x → answered x ≡ answered y →
    Made caches k kd y
made_as caches k kd x y m e = let same : x ≡ y = cc in let P : Item → Type 0 = Made caches k kd in subst P same m

made-put : (caches : List Cache) (o : Option (List ℕ)) (k : Key) (x : Item) → GoodValue o → good_key caches k ≡ true →
    keyed (verb.Put o) k ≡ Ok x → Made caches k None x
made-put caches None k x v g e = cc
made-put caches (Some w) k x v g e = made_as caches k None (item.Plain (command.Put k w)) x
    (record { good = and_from (good_key caches k) (good_value w) g v; plain = refl; object = refl }) e

made-offer : (caches : List Cache) (o : Option (List ℕ)) (k : Key) (x : Item) → GoodValue o → good_object caches k ≡ true →
    keyed (verb.Offer o) k ≡ Ok x → Made caches k (Some kind.Queue) x
made-offer caches None k x v g e = cc
made-offer caches (Some w) k x v g e = made_as caches k (Some kind.Queue) (item.Offer k w) x
    (record { good = and_from (good_object caches k) (good_value w) g v; plain = refl; object = refl }) e

pub made : (caches : List Cache) (v : Verb) (k : Key) (x : Item) → GoodValue (value_of v) → GoodFor caches k (kind_of v) →
    keyed v k ≡ Ok x → Made caches k (kind_of v) x
made caches verb.Get k x v g e = made_as caches k None (item.Plain (command.Get k)) x
    (record { good = g; plain = refl; object = refl }) e
made caches (verb.Put o) k x v g e = made-put caches o k x v g e
made caches verb.Remove k x v g e = made_as caches k None (item.Plain (command.Remove k)) x
    (record { good = g; plain = refl; object = refl }) e
made caches (verb.Add n) k x v g e = made_as caches k None (item.Plain (command.Add k n)) x
    (record { good = g; plain = refl; object = refl }) e
made caches (verb.Incr n) k x v g e = made_as caches k (Some kind.Long) (item.Incr k n) x
    (record { good = g; plain = refl; object = refl }) e
made caches verb.Next k x v g e = made_as caches k (Some kind.Sequence) (item.Next k) x
    (record { good = g; plain = refl; object = refl }) e
made caches (verb.Offer o) k x v g e = made-offer caches o k x v g e
made caches verb.Poll k x v g e = made_as caches k (Some kind.Queue) (item.Poll k) x
    (record { good = g; plain = refl; object = refl }) e

-- objects

objects-pushed : (sessions : List Session) (s : Session) (x : Item)
    → objects_in sessions (record s { commands = s.commands ++ x ∷ [] }) ≡ objects_in sessions s ++ filter_map object_of
    (x ∷ [])
objects-pushed sessions s x =
    let before : List Item = flat_map (λ (whole : Session). whole.commands) sessions in
    ap (filter_map object_of) (sym (append_assoc before s.commands (x ∷ [])))
    ∙ filter_map-append object_of (before ++ s.commands) (x ∷ [])

-- a command that names no object
pub objects-plain : (objects : List (Key × Kind)) (sessions : List Session) (s : Session) (x : Item) →
    ObjectsOf objects sessions s → object_of x ≡ None
    → ObjectsOf objects sessions (record s { commands = s.commands ++ x ∷ [] })
objects-plain objects sessions s x h e =
    let same : objects_in sessions (record s { commands = s.commands ++ x ∷ [] }) ≡ objects_in sessions s =
    objects-pushed sessions s x ∙ (rw e (append-nil (objects_in sessions s))) in
    record { agree = rw same h.agree; kept = rw same h.kept }

same_trans : (a b c : Key) → same_object a b ≡ true → same_object b c ≡ true → same_object a c ≡ true
same_trans a b c h g =
    let p = and_parts (a.cache == b.cache) (bytes_eq a.text b.text) h in
    let q = and_parts (b.cache == c.cache) (bytes_eq b.text c.text) g in
    and_from (a.cache == c.cache) (bytes_eq a.text c.text)
    (eq-eqb a.cache c.cache (eqb-true _ _ p.0 ∙ eqb-true _ _ q.0))
    ((bytes_eq-Decides a.text c.text).1 ((bytes_eq-Decides a.text b.text).0 p.1 ∙ (bytes_eq-Decides b.text c.text).0 q.1))

same_self : (a : Key) → same_object a a ≡ true
same_self a = and_from (a.cache == a.cache) (bytes_eq a.text a.text) (eq-eqb a.cache a.cache refl)
    ((bytes_eq-Decides a.text a.text).1 refl)

kinds_meet : (a b : Kind) (o : ObjectKind) → good.same_kind (kind_seen a) o ≡ true → same_object_kind a b ≡ true →
    good.same_kind o (kind_seen b) ≡ true
kinds_meet kind.Long kind.Long good.Long h g = refl
kinds_meet kind.Sequence kind.Sequence good.Sequence h g = refl
kinds_meet kind.Queue kind.Queue good.Queue h g = refl
kinds_meet kind.Long kind.Long good.Sequence h g = cc
kinds_meet kind.Long kind.Long good.Queue h g = cc
kinds_meet kind.Sequence kind.Sequence good.Long h g = cc
kinds_meet kind.Sequence kind.Sequence good.Queue h g = cc
kinds_meet kind.Queue kind.Queue good.Long h g = cc
kinds_meet kind.Queue kind.Queue good.Sequence h g = cc
kinds_meet kind.Long kind.Sequence o h g = cc
kinds_meet kind.Long kind.Queue o h g = cc
kinds_meet kind.Sequence kind.Long o h g = cc
kinds_meet kind.Sequence kind.Queue o h g = cc
kinds_meet kind.Queue kind.Long o h g = cc
kinds_meet kind.Queue kind.Sequence o h g = cc

kind_self : (a b : Kind) → same_object_kind a b ≡ true → good.same_kind (kind_seen a) (kind_seen b) ≡ true
kind_self kind.Long kind.Long h = refl
kind_self kind.Sequence kind.Sequence h = refl
kind_self kind.Queue kind.Queue h = refl
kind_self kind.Long kind.Sequence h = cc
kind_self kind.Long kind.Queue h = cc
kind_self kind.Sequence kind.Long h = cc
kind_self kind.Sequence kind.Queue h = cc
kind_self kind.Queue kind.Long h = cc
kind_self kind.Queue kind.Sequence h = cc

kind_seen-self : (a : Kind) → good.same_kind (kind_seen a) (kind_seen a) ≡ true
kind_seen-self kind.Long = refl
kind_seen-self kind.Sequence = refl
kind_seen-self kind.Queue = refl

not_both : (a b : Bool) → (a && not b) ≡ false → a ≡ true → b ≡ true
not_both true true h e = refl
not_both true false h e = cc
not_both false b h e = cc

or_cases : {C : Type 0} (a b : Bool) → (a || b) ≡ true → (a ≡ true → C) → (b ≡ true → C) → C
or_cases true b h f g = f refl
or_cases false b h f g = g h

unless : (a b : Bool) → (a ≡ true → b ≡ true) → (not a || b) ≡ true
unless true b f = f refl
unless false b f = refl

-- an object of the table is of the kind that the table has
agrees_with : (objects : List (Key × Kind)) (k : Key) (kd : Kind) (o : Key × ObjectKind) → is_other objects k kd ≡ false →
    in_table objects o ≡ true → agree_in_kind o (k, kind_seen kd) ≡ true
agrees_with [] k kd o h t = cc
agrees_with (known ∷ objects) k kd o h t =
    let none = none_of (same_object known.0 k && not (same_object_kind known.1 kd)) (is_other objects k kd) h in
    or_cases (same_object known.0 o.0 && good.same_kind (kind_seen known.1) o.1) (in_table objects o) t
    (λ here. let both = and_parts (same_object known.0 o.0) (good.same_kind (kind_seen known.1) o.1) here in
    unless (same_object o.0 k) (good.same_kind o.1 (kind_seen kd))
    (λ same. kinds_meet known.1 kd o.1 both.1 (not_both (same_object known.0 k) (same_object_kind known.1 kd) none.0
    (same_trans known.0 o.0 k both.0 same))))
    (λ there. agrees_with objects k kd o none.1 there)

all_agree : (objects : List (Key × Kind)) (k : Key) (kd : Kind) (os : List (Key × ObjectKind)) →
    is_other objects k kd ≡ false → list_all (in_table objects) os ≡ true
    → list_all (λ o. agree_in_kind o (k, kind_seen kd)) os ≡ true
all_agree objects k kd [] h t = refl
all_agree objects k kd (o ∷ os) h t =
    let parts = and_parts (in_table objects o) (list_all (in_table objects) os) t in
    and_from (agree_in_kind o (k, kind_seen kd)) (list_all (λ p. agree_in_kind p (k, kind_seen kd)) os)
    (agrees_with objects k kd o h parts.0) (all_agree objects k kd os h parts.1)

kinds-pushed : (os : List (Key × ObjectKind)) (x : Key × ObjectKind) → good_kinds os ≡ true →
    list_all (λ o. agree_in_kind o x) os ≡ true → good_kinds (os ++ x ∷ []) ≡ true
kinds-pushed [] x h a = refl
kinds-pushed (o ∷ os) x h a =
    let parts = and_parts (list_all (agree_in_kind o) os) (good_kinds os) h in
    let now = and_parts (agree_in_kind o x) (list_all (λ p. agree_in_kind p x) os) a in
    and_from (list_all (agree_in_kind o) (os ++ x ∷ [])) (good_kinds (os ++ x ∷ []))
    (pushed_all (agree_in_kind o) os x parts.0 now.0) (kinds-pushed os x parts.1 now.1)

-- the table has the object, with its kind
has_kind : (objects : List (Key × Kind)) (k : Key) (kd : Kind) → is_other objects k kd ≡ false → has_object objects k ≡ true →
    in_table objects (k, kind_seen kd) ≡ true
has_kind [] k kd h t = cc
has_kind (known ∷ objects) k kd h t =
    let none = none_of (same_object known.0 k && not (same_object_kind known.1 kd)) (is_other objects k kd) h in
    or_cases (same_object known.0 k) (has_object objects k) t
    (λ here. or_left (same_object known.0 k && good.same_kind (kind_seen known.1) (kind_seen kd)) _
    (and_from (same_object known.0 k) (good.same_kind (kind_seen known.1) (kind_seen kd)) here
    (kind_self known.1 kd (not_both (same_object known.0 k) (same_object_kind known.1 kd) none.0 here))))
    (λ there. or_right (same_object known.0 k && good.same_kind (kind_seen known.1) (kind_seen kd))
    (in_table objects (k, kind_seen kd)) (has_kind objects k kd none.1 there))

table_kept : (objects : List (Key × Kind)) (entry : Key × Kind) (os : List (Key × ObjectKind)) →
    list_all (in_table objects) os ≡ true → list_all (in_table (objects ++ entry ∷ [])) os ≡ true
table_kept objects entry [] h = refl
table_kept objects entry (o ∷ os) h =
    let parts = and_parts (in_table objects o) (list_all (in_table objects) os) h in
    and_from (in_table (objects ++ entry ∷ []) o) (list_all (in_table (objects ++ entry ∷ [])) os)
    (list_any-append (λ known. same_object known.0 o.0 && good.same_kind (kind_seen known.1) o.1) objects (entry ∷ [])
    ∙ or_left (in_table objects o) _ parts.0)
    (table_kept objects entry os parts.1)

table_new : (objects : List (Key × Kind)) (k : Key) (kd : Kind) → in_table (objects ++ (k, kd) ∷ []) (k, kind_seen kd) ≡ true
table_new objects k kd =
    list_any-append (λ known. same_object known.0 k && good.same_kind (kind_seen known.1) (kind_seen kd)) objects ((k, kd) ∷ [])
    ∙ or_right (in_table objects (k, kind_seen kd)) _
    (or_left (same_object k k && good.same_kind (kind_seen kd) (kind_seen kd)) false
    (and_from (same_object k k) _ (same_self k) (kind_seen-self kd)))

-- a command on an object that is none of another kind, with the table as it is, and with the object added
pub objects-known : (objects : List (Key × Kind)) (sessions : List Session) (s : Session) (x : Item) (k : Key) (kd : Kind) →
    ObjectsOf objects sessions s → object_of x ≡ Some (k, kind_seen kd)
    → is_other objects k kd ≡ false → has_object objects k ≡ true →
    ObjectsOf objects sessions (record s { commands = s.commands ++ x ∷ [] })
objects-known objects sessions s x k kd h e o known =
    let more : objects_in sessions (record s { commands = s.commands ++ x ∷ [] }) ≡ objects_in sessions s ++ (k, kind_seen kd)
    ∷ [] = objects-pushed sessions s x ∙ (rw e refl) in
    record {
      agree = rw more (kinds-pushed (objects_in sessions s) (k, kind_seen kd) h.agree
          (all_agree objects k kd (objects_in sessions s) o h.kept));
      kept = rw more (pushed_all (in_table objects) (objects_in sessions s) (k, kind_seen kd) h.kept
          (has_kind objects k kd o known));
    }

pub objects-new : (objects : List (Key × Kind)) (sessions : List Session) (s : Session) (x : Item) (k : Key) (kd : Kind) →
    ObjectsOf objects sessions s → object_of x ≡ Some (k, kind_seen kd)
    → is_other objects k kd ≡ false →
    ObjectsOf (objects ++ (k, kd) ∷ []) sessions (record s { commands = s.commands ++ x ∷ [] })
objects-new objects sessions s x k kd h e o =
    let more : objects_in sessions (record s { commands = s.commands ++ x ∷ [] }) ≡ objects_in sessions s ++ (k, kind_seen kd)
    ∷ [] = objects-pushed sessions s x ∙ (rw e refl) in
    record {
      agree = rw more (kinds-pushed (objects_in sessions s) (k, kind_seen kd) h.agree
          (all_agree objects k kd (objects_in sessions s) o h.kept));
      kept = rw more (pushed_all (in_table (objects ++ (k, kd) ∷ [])) (objects_in sessions s) (k, kind_seen kd)
          (table_kept objects (k, kd) (objects_in sessions s) h.kept) (table_new objects k kd));
    }
