-- The lines of a session give it, and those of all sessions all of them.
use Rattle.std.proofs.Common.{◌≡◌, ◌+◌, ◌<◌, ◌≤◌, Bool, true, false, List, [], ◌∷◌, ◌++◌, length, refl, sym, ap, ◌∙◌, arith, length-append, append_assoc, append-nil}
use Rattle.std.specs.Prelude.{◌&&◌, ◌||◌, not, nat_le, codes, decimal, filter_map, flat_map, map, Option, Some, None, Result, Ok}
use Rattle.std.specs.List.{cons_option, list_all}
use Rattle.std.proofs.lemmas.Bool.{and_parts, lt-ltb, leb-true}
use Rattle.ignite_types.specs.Good.{ObjectKind, are_distinct, good_blocks, good_item, good_kinds, good_session, has_member, is_name, is_plain, is_within, members, object_of, open_behind, same_session_name}
use Rattle.ignite_types.specs.declared.text.Key.{Key}
use Rattle.ignite_types.specs.declared.scenario.Item.{Item}
use Rattle.ignite_types.specs.declared.scenario.Scenario.{Scenario}
use Rattle.ignite_types.specs.declared.scenario.Session.{Session}
use Rattle.scen_text.specs.declared.cause.Cause.{Cause}
use Rattle.scen_text.specs.declared.draft.Draft.{Draft}
use Rattle.scen_text.specs.declared.limits.Kind.{Kind}
use Rattle.scen_text.specs.declared.place.Place.TheVariants as place
use Rattle.scen_text.specs.Drafts.{no_session, with_end, with_session}
use Rattle.scen_text.specs.Known.{has_session, is_named}
use Rattle.scen_text.specs.Places.{may_follow}
use Rattle.text_laws.proofs.Lines.{item_words, session_lines}
use Rattle.text_laws.specs.RoundTrip.{has_long}
use Rattle.text_laws.proofs.Caches.{new_one}
use Rattle.text_laws.proofs.Means.{session_meant, end_meant}
use Rattle.text_laws.proofs.Plans.{Known, within_of}
use Rattle.text_laws.proofs.Scripts.{agrees_with, script_place, inside, behind_item, Whole, item_taken}
use Rattle.text_laws.proofs.Taken.{all_taken, taken_first, taken_both, taken_meant}

-- the objects of commands

cons-append : {A : Type 0} (o : Option A) (xs ys : List A) → cons_option o xs ++ ys ≡ cons_option o (xs ++ ys)
cons-append None xs ys = refl
cons-append (Some x) xs ys = refl

objects-append : (xs ys : List Item) → filter_map object_of (xs ++ ys) ≡ filter_map object_of xs ++ filter_map object_of ys
objects-append [] ys = refl
objects-append (x ∷ xs) ys = ap (cons_option (object_of x)) (objects-append xs ys)
    ∙ sym (cons-append (object_of x) (filter_map object_of xs) (filter_map object_of ys))

-- the commands of a session

-- the draft behind some commands
abbrev behind_items : Draft → Bool → List (Key × Kind) → List Item → Draft
behind_items d opened objects xs = record d {
  place = script_place opened;
  objects = objects;
  session =
      record d.session { commands = d.session.commands ++ xs };
}

record ItemsFit (s : Scenario) (d : Draft) (opened : Bool) (xs : List Item) (left : List (Key × ObjectKind)) : Type 0 where
  format : d.format ≡ s.format
  caches : d.caches ≡ s.caches
  place : d.place ≡ script_place opened
  room : length d.session.commands + length xs ≤ 1000
  good : list_all (good_item s.caches) xs ≡ true
  long : list_all has_long xs ≡ true
  blocks : good_blocks opened xs ≡ true
  agree : list_all (agrees_with d.objects) (filter_map object_of xs ++ left) ≡ true
  kinds : good_kinds (filter_map object_of xs ++ left) ≡ true

record ItemsTaken (s : Scenario) (d : Draft) (xs : List Item) (left : List (Key × ObjectKind)) : Type 0 where
  opened : Bool
  objects : List (Key × Kind)
  took : all_taken d (map (item_words s) xs) ≡ Ok (behind_items d opened objects xs)
  agree : list_all (agrees_with objects) left ≡ true
  kinds : good_kinds left ≡ true

-- the draft behind a command and those that follow it
one_more : (d : Draft) (now later : Bool) (known all : List (Key × Kind)) (x : Item) (xs : List Item)
    (r : Result Draft Cause) → r ≡ Ok (behind_items (behind_item d now known x) later all xs)
    → r ≡ Ok (behind_items d later all (x ∷ xs))
one_more d now later known all x xs r h =
    h ∙ ap (λ commands. Ok (record d {
      place = script_place later;
      objects = all;
      session =
          record d.session { commands = commands };
    })) (append_assoc d.session.commands (x ∷ []) xs)

items_taken : (s : Scenario) (xs : List Item) (d : Draft) (opened : Bool) (left : List (Key × ObjectKind)) → Whole s →
    ItemsFit s d opened xs left → ItemsTaken s d xs left
items_taken s [] d opened left w f = record {
  opened = opened;
  objects = d.objects;
  took = ap Ok (same d.place (script_place opened) d.session.commands f.place);
  agree = f.agree;
  kinds = f.kinds;
}
  where
    same : (p q : _) (commands : List Item) → p ≡ q →
        record d { place = p; session = record d.session { commands = commands } } ≡ record d {
          place = q;
          session =
              record d.session { commands = commands ++ [] };
        }
    same p q commands e = λ i. record d { place = e i; session = record d.session { commands = sym (append-nil commands) i } }
items_taken s (x ∷ xs) d opened left w f =
    let goods = and_parts (good_item s.caches x) (list_all (good_item s.caches) xs) f.good in
    let longs = and_parts (has_long x) (list_all has_long xs) f.long in
    let blocks = and_parts (is_plain x || not opened) (good_blocks (open_behind opened x) xs) f.blocks in
    let joined = cons-append (object_of x) (filter_map object_of xs) left in
    let longer : length (d.session.commands ++ x ∷ []) ≡ length d.session.commands + 1 =
    length-append d.session.commands (x ∷ []) in
    let one = item_taken s d opened x (filter_map object_of xs ++ left) w (record {
      format = f.format;
      caches = f.caches;
      place = f.place;
      room = lt-ltb (length d.session.commands) 1000 (omega (arith, f.room));
      good = goods.0;
      long = longs.0;
      free = blocks.0;
      agree = rw joined at f.agree;
      kinds = rw joined at f.kinds;
    }) in
    let more = items_taken s xs (behind_item d (open_behind opened x) one.objects x) (open_behind opened x) left w (record {
      format = f.format;
      caches = f.caches;
      place = refl;
      room = omega (arith, f.room, longer);
      good = goods.1;
      long = longs.1;
      blocks = blocks.1;
      agree = one.agree;
      kinds = one.kinds;
    }) in
    record {
      opened = more.opened;
      objects = more.objects;
      took = taken_first d (behind_item d (open_behind opened x) one.objects x)
          (behind_items d more.opened more.objects (x ∷ xs)) (item_words s x) (map (item_words s) xs) one.took
          (one_more d (open_behind opened x) more.opened one.objects more.objects x xs
          (all_taken (behind_item d (open_behind opened x) one.objects x) (map (item_words s) xs)) more.took);
      agree = more.agree;
      kinds = more.kinds;
    }

-- a session

record SessionFits (s : Scenario) (d : Draft) (x : Session) (left : List (Key × ObjectKind)) : Type 0 where
  format : d.format ≡ s.format
  caches : d.caches ≡ s.caches
  stands : may_follow d.place place.Sessions ≡ true
  room : length d.sessions < 64
  new : has_session d.sessions x.name ≡ false
  good : good_session s.caches (members s) x ≡ true
  long : list_all has_long x.commands ≡ true
  agree : list_all (agrees_with d.objects) (filter_map object_of x.commands ++ left) ≡ true
  kinds : good_kinds (filter_map object_of x.commands ++ left) ≡ true

-- the draft behind a session
abbrev behind_session : Draft → List (Key × Kind) → Session → Draft
behind_session d objects x = record d {
  place = place.Sessions;
  objects = objects;
  sessions = d.sessions ++ x ∷ [];
  session =
      no_session;
}

record SessionTaken (s : Scenario) (d : Draft) (x : Session) (left : List (Key × ObjectKind)) : Type 0 where
  objects : List (Key × Kind)
  took : all_taken d (session_lines s x) ≡ Ok (behind_session d objects x)
  agree : list_all (agrees_with objects) left ≡ true
  kinds : good_kinds left ≡ true

-- what a good session is
record GoodSession (s : Scenario) (x : Session) : Type 0 where
  name : is_name x.name ≡ true
  node : has_member (members s) x.node ≡ true
  few : length x.commands ≤ 1000
  each : list_all (good_item s.caches) x.commands ≡ true
  blocks : good_blocks false x.commands ≡ true

good_parts : (s : Scenario) (x : Session) → good_session s.caches (members s) x ≡ true → GoodSession s x
good_parts s x h =
    let a = and_parts (is_name x.name && has_member (members s) x.node && nat_le (length x.commands) 1000
    && list_all (good_item s.caches) x.commands) (good_blocks false x.commands) h in
    let b = and_parts (is_name x.name && has_member (members s) x.node && nat_le (length x.commands) 1000)
    (list_all (good_item s.caches) x.commands) a.0 in
    let c = and_parts (is_name x.name && has_member (members s) x.node) (nat_le (length x.commands) 1000) b.0 in
    let e = and_parts (is_name x.name) (has_member (members s) x.node) c.0 in
    record { name = e.0; node = e.1; few = leb-true _ 1000 c.1; each = b.1; blocks = a.1 }

-- the draft behind the first line of a session
abbrev begun : Draft → Session → Draft
begun d x = record d { place = place.Script; session = record { name = x.name; node = x.node; commands = [] } }

begin_step : (d : Draft) (x : Session) → may_follow d.place place.Sessions ≡ true → is_within 1 99 x.node.0 ≡ true →
    length d.sessions < 64 → is_named d.named x.node ≡ true → has_session d.sessions x.name ≡ false
    → with_session d (Some x.name) x.node ≡ Ok (begun d x)
begin_step d x st within few called new = rw (st, within, lt-ltb _ 64 few, called, new) refl

end_step : (d : Draft) (opened : Bool) (objects : List (Key × Kind)) (x : Session) →
    with_end (behind_items (begun d x) opened objects x.commands) ≡ Ok (behind_session d objects x)
end_step d opened objects x = rw (inside opened) refl

session_taken : (s : Scenario) (d : Draft) (x : Session) (left : List (Key × ObjectKind)) → Whole s → Known s d.named →
    SessionFits s d x left → SessionTaken s d x left
session_taken s d x left w k f =
    let g = good_parts s x f.good in
    let within = within_of (members s) x.node g.node k.within in
    let one = taken_meant d _ _ (session_meant d.format x.node.0 x.name g.name within)
    ∙ begin_step d x f.stands within f.room (k.named x.node g.node) f.new in
    let items = items_taken s x.commands (begun d x) false left w (record {
      format = f.format;
      caches = f.caches;
      place = refl;
      room = omega (arith, g.few);
      good = g.each;
      long = f.long;
      blocks = g.blocks;
      agree = f.agree;
      kinds = f.kinds;
    }) in
    let after = behind_items (begun d x) items.opened items.objects x.commands in
    let whole = behind_session d items.objects x in
    let last = taken_meant after _ _ (end_meant after.format) ∙ end_step d items.opened items.objects x in
    record {
      objects = items.objects;
      took = taken_first d (begun d x) whole (codes "session" ∷ x.name ∷ decimal x.node.0 ∷ [])
          (map (item_words s) x.commands ++ ((codes "end" ∷ []) ∷ [])) one
          (taken_both (map (item_words s) x.commands) ((codes "end" ∷ []) ∷ []) (begun d x) after whole items.took
          (taken_first after whole whole (codes "end" ∷ []) [] last refl));
      agree = items.agree;
      kinds = items.kinds;
    }

-- all sessions

abbrev pub commands_of : List Session → List Item
commands_of xs = flat_map (λ session. session.commands) xs

pub record SessionsFit (s : Scenario) (d : Draft) (xs : List Session) : Type 0 where
  pub format : d.format ≡ s.format
  pub caches : d.caches ≡ s.caches
  pub stands : may_follow d.place place.Sessions ≡ true
  pub room : length d.sessions + length xs ≤ 64
  pub distinct : are_distinct same_session_name (d.sessions ++ xs) ≡ true
  pub good : list_all (good_session s.caches (members s)) xs ≡ true
  pub long : list_all (λ session. list_all has_long session.commands) xs ≡ true
  pub agree : list_all (agrees_with d.objects) (filter_map object_of (commands_of xs)) ≡ true
  pub kinds : good_kinds (filter_map object_of (commands_of xs)) ≡ true

pub record SessionsTaken (s : Scenario) (d : Draft) (xs : List Session) : Type 0 where
  pub next : Draft
  pub took : all_taken d (flat_map (session_lines s) xs) ≡ Ok next
  pub format : next.format ≡ d.format
  pub stands : may_follow next.place place.Sessions ≡ true
  pub caches : next.caches ≡ d.caches
  pub nodes : next.nodes ≡ d.nodes
  pub plan : next.plan ≡ d.plan
  pub sessions : next.sessions ≡ d.sessions ++ xs

pub sessions_taken : (s : Scenario) (xs : List Session) (d : Draft) → Whole s → Known s d.named → SessionsFit s d xs →
    SessionsTaken s d xs
sessions_taken s [] d w k f = record {
  next = d;
  took = refl;
  format = refl;
  stands = f.stands;
  caches = refl;
  nodes = refl;
  plan = refl;
  sessions = sym (append-nil d.sessions);
}
sessions_taken s (x ∷ xs) d w k f =
    let goods = and_parts (good_session s.caches (members s) x) (list_all (good_session s.caches (members s)) xs) f.good in
    let longs = and_parts (list_all has_long x.commands) (list_all (λ session. list_all has_long session.commands) xs) f.long in
    let split = objects-append x.commands (commands_of xs) in
    let longer : length (d.sessions ++ x ∷ []) ≡ length d.sessions + 1 = length-append d.sessions (x ∷ []) in
    let one = session_taken s d x (filter_map object_of (commands_of xs)) w k (record {
      format = f.format;
      caches = f.caches;
      stands = f.stands;
      room = omega (arith, f.room);
      new = new_one same_session_name d.sessions x xs f.distinct;
      good = goods.0;
      long = longs.0;
      agree = rw split at f.agree;
      kinds = rw split at f.kinds;
    }) in
    let more = sessions_taken s xs (behind_session d one.objects x) w k (record {
      format = f.format;
      caches = f.caches;
      stands = refl;
      room = omega (arith, f.room, longer);
      distinct = rw (append_assoc d.sessions (x ∷ []) xs) f.distinct;
      good = goods.1;
      long = longs.1;
      agree = one.agree;
      kinds = one.kinds;
    }) in
    record {
      next = more.next;
      took = taken_both (session_lines s x) (flat_map (session_lines s) xs) d (behind_session d one.objects x) more.next
          one.took more.took;
      format = more.format;
      stands = more.stands;
      caches = more.caches;
      nodes = more.nodes;
      plan = more.plan;
      sessions = more.sessions ∙ append_assoc d.sessions (x ∷ []) xs;
    }
