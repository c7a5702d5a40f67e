-- Each line means what it was printed from.
use Rattle.std.proofs.Common.{◌≡◌, ℕ, ◌<◌, ◌≤◌, Bool, true, false, List, [], ◌∷◌, refl, sym, subst, arith}
use Rattle.std.specs.Prelude.{◌&&◌, ℤ, nat_le, codes, decimal, Some, Ok}
use Rattle.std.specs.Fmt.{signed_decimal}
use Rattle.std.proofs.lemmas.Bool.{and_parts, leb-true}
use Rattle.ignite_types.specs.Good.{good_cache, good_value, is_name, is_within}
use Rattle.ignite_types.specs.declared.scenario.Cache.{Cache}
use Rattle.ignite_types.specs.declared.scenario.Command.TheVariants as command
use Rattle.ignite_types.specs.declared.scenario.Mode.{Mode}
use Rattle.ignite_types.specs.declared.scenario.Mode.TheVariants.{Pessimistic, Optimistic}
use Rattle.ignite_types.specs.declared.scenario.Step.TheVariants as step
use Rattle.scen_text.specs.declared.line.CacheWords.{CacheWords}
use Rattle.scen_text.specs.declared.line.KeyWords.{KeyWords}
use Rattle.scen_text.specs.declared.line.Line.{Line}
use Rattle.scen_text.specs.declared.line.Line.TheVariants as line
use Rattle.scen_text.specs.declared.line.Setting.TheVariants as setting
use Rattle.scen_text.specs.declared.line.Verb.TheVariants as verb
use Rattle.scen_text.specs.Forms.{key_words, object_words}
use Rattle.scen_print.specs.Items.{mode_text}
use Rattle.scen_text.specs.Meaning.{meaning}
use Rattle.scen_print.specs.Printing.{role_text}
use Rattle.text_laws.proofs.Lines.{shape_words, setting_words, member_words}
use Rattle.text_laws.specs.RoundTrip.{is_long}
use Rattle.text_laws.proofs.Names.{name-read, name-word, value-read, value-word}
use Rattle.text_laws.proofs.Numbers.{number-decimal, decimal-word, integer-decimal, integer-word}
use Rattle.text_laws.proofs.Split.{is_word, is_line}

-- the words are a line that means this in the format
pub record Meant (f : ℕ) (ws : List (List ℕ)) (l : Line) : Type 0 where
  pub line : is_line ws ≡ true
  pub means : meaning f ws ≡ Ok l

-- in format 2
pub in_second : (f : ℕ) (ws : List (List ℕ)) (l : Line) → f ≡ 2 → Meant 2 ws l → Meant f ws l
in_second f ws l two m = subst (λ x. Meant x ws l) (sym two) m

pub within_most : (least most n : ℕ) → is_within least most n ≡ true → n ≤ most
within_most least most n h = leb-true n most (and_parts (nat_le least n) (nat_le n most) h).1

-- the head

pub head_meant : (f : ℕ) → Meant f (codes "scenario" ∷ codes "1" ∷ []) (line.Head 1)
head_meant f = record { line = refl; means = refl }

pub second_meant : (f : ℕ) → Meant f (codes "scenario" ∷ codes "2" ∷ []) (line.Head 2)
second_meant f = record { line = refl; means = refl }

pub parts_meant : (n : ℕ) → n < 10000000 → Meant 1 (setting_words (codes "parts") n) (line.Setting setting.Parts n)
parts_meant n h = let w = decimal-word n h in let r = number-decimal n h in record { line = rw w refl; means = rw r refl }

pub backups_meant : (n : ℕ) → n < 10000000 → Meant 1 (setting_words (codes "backups") n) (line.Setting setting.Backups n)
backups_meant n h = let w = decimal-word n h in let r = number-decimal n h in record { line = rw w refl; means = rw r refl }

pub near_meant : (n : ℕ) → n < 10000000 → Meant 1 (setting_words (codes "near") n) (line.Setting setting.Near n)
near_meant n h = let w = decimal-word n h in let r = number-decimal n h in record { line = rw w refl; means = rw r refl }

-- what a good cache is

pub record CacheFits (c : Cache) : Type 0 where
  pub name : is_name c.name ≡ true
  pub parts : is_within 1 1024 c.parts ≡ true
  pub backups : nat_le c.backups 3 ≡ true
  pub near : nat_le c.near 10000 ≡ true

pub cache_fits : (c : Cache) → good_cache c ≡ true → CacheFits c
cache_fits c h =
    let a = and_parts (is_name c.name && is_within 1 1024 c.parts && nat_le c.backups 3) (nat_le c.near 10000) h in
    let b = and_parts (is_name c.name && is_within 1 1024 c.parts) (nat_le c.backups 3) a.0 in
    let d = and_parts (is_name c.name) (is_within 1 1024 c.parts) b.0 in
    record { name = d.0; parts = d.1; backups = b.1; near = a.1 }

abbrev pub words_of : Cache → CacheWords
words_of c = record { name = Some c.name; parts = c.parts; backups = c.backups; near = c.near }

-- the four words of a cache
record Four (c : Cache) : Type 0 where
  name : is_word c.name ≡ true
  parts : is_word (decimal c.parts) ≡ true
  backups : is_word (decimal c.backups) ≡ true
  near : is_word (decimal c.near) ≡ true
  small_parts : c.parts < 10000000
  small_backups : c.backups < 10000000
  small_near : c.near < 10000000

four : (c : Cache) → CacheFits c → Four c
four c h =
    let p = within_most 1 1024 c.parts h.parts in
    let b = leb-true c.backups 3 h.backups in
    let n = leb-true c.near 10000 h.near in
    let small_parts : c.parts < 10000000 = omega arith in
    let small_backups : c.backups < 10000000 = omega arith in
    let small_near : c.near < 10000000 = omega arith in
    record {
      name = name-word c.name h.name;
      parts = decimal-word c.parts small_parts;
      backups = decimal-word c.backups small_backups;
      near = decimal-word c.near small_near;
      small_parts = small_parts;
      small_backups = small_backups;
      small_near = small_near;
    }

pub cache_meant : (c : Cache) → good_cache c ≡ true → Meant 2 (codes "cache" ∷ shape_words c) (line.Cache false (words_of c))
cache_meant c g =
    let h = cache_fits c g in
    let w = four c h in
    record {
      line = rw (w.name, w.parts, w.backups, w.near) refl;
      means = rw (name-read c.name h.name)
          (rw (number-decimal c.parts w.small_parts)
          (rw (number-decimal c.backups w.small_backups) (rw (number-decimal c.near w.small_near) refl)));
    }

pub data_meant : (c : Cache) → good_cache c ≡ true → Meant 2 (codes "data" ∷ shape_words c) (line.Cache true (words_of c))
data_meant c g =
    let h = cache_fits c g in
    let w = four c h in
    record {
      line = rw (w.name, w.parts, w.backups, w.near) refl;
      means = rw (name-read c.name h.name)
          (rw (number-decimal c.parts w.small_parts)
          (rw (number-decimal c.backups w.small_backups) (rw (number-decimal c.near w.small_near) refl)));
    }

-- nodes

small_node : (n : ℕ) → is_within 1 99 n ≡ true → n < 10000000
small_node n h = let m = within_most 1 99 n h in omega arith

pub member_meant : (f n : ℕ) (server : Bool) → is_within 1 99 n ≡ true →
    Meant f (member_words (record { node = record { 0 = n }; server = server }))
    (line.Member (record { node = record { 0 = n }; server = server }))
member_meant f n true h =
    let w = decimal-word n (small_node n h) in
    let r = number-decimal n (small_node n h) in
    record { line = rw w refl; means = rw r refl }
member_meant f n false h =
    let w = decimal-word n (small_node n h) in
    let r = number-decimal n (small_node n h) in
    record { line = rw w refl; means = rw r refl }

-- the plan

small_moment : (m : ℕ) → is_within 1 1000000 m ≡ true → m < 10000000
small_moment m h = let k = within_most 1 1000000 m h in omega arith

pub join_meant : (f m n : ℕ) (server : Bool) → is_within 1 1000000 m ≡ true → is_within 1 99 n ≡ true
    → Meant f (codes "plan" ∷ decimal m ∷ codes "join" ∷ decimal n ∷ role_text server ∷ [])
    (line.Join m (record { node = record { 0 = n }; server = server }))
join_meant f m n true h k =
    let v = decimal-word m (small_moment m h) in
    let w = decimal-word n (small_node n k) in
    record {
      line = rw (v, w) refl;
      means =
          rw (number-decimal m (small_moment m h)) (rw (number-decimal n (small_node n k)) refl);
    }
join_meant f m n false h k =
    let v = decimal-word m (small_moment m h) in
    let w = decimal-word n (small_node n k) in
    record {
      line = rw (v, w) refl;
      means =
          rw (number-decimal m (small_moment m h)) (rw (number-decimal n (small_node n k)) refl);
    }

pub lose_meant : (f m n : ℕ) → is_within 1 1000000 m ≡ true → is_within 1 99 n ≡ true
    → Meant f (codes "plan" ∷ decimal m ∷ codes "lose" ∷ decimal n ∷ []) (line.Links m (step.Lose (record { 0 = n })))
lose_meant f m n h k =
    let v = decimal-word m (small_moment m h) in
    let w = decimal-word n (small_node n k) in
    record {
      line = rw (v, w) refl;
      means =
          rw (number-decimal m (small_moment m h)) (rw (number-decimal n (small_node n k)) refl);
    }

pub hold_meant : (f m a b : ℕ) → is_within 1 1000000 m ≡ true → is_within 1 99 a ≡ true → is_within 1 99 b ≡ true
    → Meant f (codes "plan" ∷ decimal m ∷ codes "hold" ∷ decimal a ∷ decimal b ∷ [])
    (line.Links m (step.Hold (record { 0 = a }) (record { 0 = b })))
hold_meant f m a b h k l =
    let v = decimal-word m (small_moment m h) in
    let w = decimal-word a (small_node a k) in
    let x = decimal-word b (small_node b l) in
    record {
      line = rw v (rw w (rw x refl));
      means =
          rw (number-decimal m (small_moment m h))
          (rw (number-decimal a (small_node a k)) (rw (number-decimal b (small_node b l)) refl));
    }

pub release_meant : (f m a b : ℕ) → is_within 1 1000000 m ≡ true → is_within 1 99 a ≡ true → is_within 1 99 b ≡ true
    → Meant f (codes "plan" ∷ decimal m ∷ codes "release" ∷ decimal a ∷ decimal b ∷ [])
    (line.Links m (step.Release (record { 0 = a }) (record { 0 = b })))
release_meant f m a b h k l =
    let v = decimal-word m (small_moment m h) in
    let w = decimal-word a (small_node a k) in
    let x = decimal-word b (small_node b l) in
    record {
      line = rw v (rw w (rw x refl));
      means =
          rw (number-decimal m (small_moment m h))
          (rw (number-decimal a (small_node a k)) (rw (number-decimal b (small_node b l)) refl));
    }

pub start_meant : (m : ℕ) (c : Cache) → is_within 1 1000000 m ≡ true → good_cache c ≡ true →
    Meant 2 (codes "plan" ∷ decimal m ∷ codes "start" ∷ shape_words c) (line.Start m (words_of c))
start_meant m c k g =
    let v = decimal-word m (small_moment m k) in
    let h = cache_fits c g in
    let w = four c h in
    record {
      line = rw v (rw (w.name, w.parts, w.backups, w.near) refl);
      means = rw (number-decimal m (small_moment m k))
          (rw (name-read c.name h.name)
          (rw (number-decimal c.parts w.small_parts)
          (rw (number-decimal c.backups w.small_backups) (rw (number-decimal c.near w.small_near) refl))));
    }

pub stop_meant : (m : ℕ) (name : List ℕ) → is_within 1 1000000 m ≡ true → is_name name ≡ true →
    Meant 2 (codes "plan" ∷ decimal m ∷ codes "stop" ∷ name ∷ []) (line.Stop m (Some name))
stop_meant m name k h =
    let v = decimal-word m (small_moment m k) in
    let w = name-word name h in
    record { line = rw v (rw w refl); means = rw (number-decimal m (small_moment m k)) (rw (name-read name h) refl) }

-- sessions

pub session_meant : (f n : ℕ) (name : List ℕ) → is_name name ≡ true → is_within 1 99 n ≡ true
    → Meant f (codes "session" ∷ name ∷ decimal n ∷ []) (line.Session (Some name) (record { 0 = n }))
session_meant f n name h k =
    let v = name-word name h in
    let w = decimal-word n (small_node n k) in
    record { line = rw v (rw w refl); means = rw (name-read name h) (rw (number-decimal n (small_node n k)) refl) }

pub end_meant : (f : ℕ) → Meant f (codes "end" ∷ []) line.End
end_meant f = record { line = refl; means = refl }

pub begin_meant : (f t : ℕ) (m : Mode) → t ≤ 1000000 → Meant f (codes "begin" ∷ mode_text m ∷ decimal t ∷ [])
    (line.Bare (command.Begin m t))
begin_meant f t Pessimistic h =
    let l : t < 10000000 = omega arith in
    let w = decimal-word t l in
    let r = number-decimal t l in
    record { line = rw w refl; means = rw r refl }
begin_meant f t Optimistic h =
    let l : t < 10000000 = omega arith in
    let w = decimal-word t l in
    let r = number-decimal t l in
    record { line = rw w refl; means = rw r refl }

pub commit_meant : (f : ℕ) → Meant f (codes "commit" ∷ []) (line.Bare command.Commit)
commit_meant f = record { line = refl; means = refl }

pub rollback_meant : (f : ℕ) → Meant f (codes "rollback" ∷ []) (line.Bare command.Rollback)
rollback_meant f = record { line = refl; means = refl }

pub sleep_meant : (f m : ℕ) → is_within 1 1000000 m ≡ true →
    Meant f (codes "sleep" ∷ decimal m ∷ []) (line.Bare (command.Sleep m))
sleep_meant f m h =
    let w = decimal-word m (small_moment m h) in
    let r = number-decimal m (small_moment m h) in
    record { line = rw w refl; means = rw r refl }

-- commands on keys

-- the word is read as this key
pub record KeyMeant (f : ℕ) (w : List ℕ) (k : KeyWords) : Type 0 where
  pub word : is_word w ≡ true
  pub means : key_words f w ≡ Ok k

pub get_meant : (f : ℕ) (w : List ℕ) (k : KeyWords) → KeyMeant f w k → Meant f (codes "get" ∷ w ∷ []) (line.Keyed verb.Get k)
get_meant f w k h = let v = h.word in let m = h.means in record { line = rw v refl; means = rw m refl }

pub remove_meant : (f : ℕ) (w : List ℕ) (k : KeyWords) → KeyMeant f w k →
    Meant f (codes "remove" ∷ w ∷ []) (line.Keyed verb.Remove k)
remove_meant f w k h = let v = h.word in let m = h.means in record { line = rw v refl; means = rw m refl }

pub put_meant : (f : ℕ) (w x : List ℕ) (k : KeyWords) → KeyMeant f w k → good_value x ≡ true →
    Meant f (codes "put" ∷ w ∷ x ∷ []) (line.Keyed (verb.Put (Some x)) k)
put_meant f w x k h g = let v = h.word in let m = h.means in record {
  line = rw v (rw (value-word x g) refl);
  means =
      rw m (rw (value-read x g) refl);
}

pub add_meant : (f : ℕ) (w : List ℕ) (i : ℤ) (k : KeyWords) → KeyMeant f w k → is_long i ≡ true →
    Meant f (codes "add" ∷ w ∷ signed_decimal i ∷ []) (line.Keyed (verb.Add i) k)
add_meant f w i k h g = let v = h.word in let m = h.means in record {
  line = rw v (rw (integer-word i g) refl);
  means =
      rw m (rw (integer-decimal i g) refl);
}

-- commands on objects

pub record ObjectMeant (w : List ℕ) (k : KeyWords) : Type 0 where
  pub word : is_word w ≡ true
  pub means : object_words w ≡ Ok k

pub incr_meant : (w : List ℕ) (i : ℤ) (k : KeyWords) → ObjectMeant w k → is_long i ≡ true →
    Meant 2 (codes "incr" ∷ w ∷ signed_decimal i ∷ []) (line.Keyed (verb.Incr i) k)
incr_meant w i k h g = let v = h.word in let m = h.means in record {
  line = rw v (rw (integer-word i g) refl);
  means =
      rw m (rw (integer-decimal i g) refl);
}

pub next_meant : (w : List ℕ) (k : KeyWords) → ObjectMeant w k → Meant 2 (codes "next" ∷ w ∷ []) (line.Keyed verb.Next k)
next_meant w k h = let v = h.word in let m = h.means in record { line = rw v refl; means = rw m refl }

pub offer_meant : (w x : List ℕ) (k : KeyWords) → ObjectMeant w k → good_value x ≡ true →
    Meant 2 (codes "offer" ∷ w ∷ x ∷ []) (line.Keyed (verb.Offer (Some x)) k)
offer_meant w x k h g = let v = h.word in let m = h.means in record {
  line = rw v (rw (value-word x g) refl);
  means =
      rw m (rw (value-read x g) refl);
}

pub poll_meant : (w : List ℕ) (k : KeyWords) → ObjectMeant w k → Meant 2 (codes "poll" ∷ w ∷ []) (line.Keyed verb.Poll k)
poll_meant w k h = let v = h.word in let m = h.means in record { line = rw v refl; means = rw m refl }
