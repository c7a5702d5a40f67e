-- How often a version is opened, or may still be.
use Rattle.std.proofs.Common.{◌≡◌, ◌≤◌, ◌+◌, ◌++◌, ◌&&◌, List, [], ◌∷◌, Option, Some, Bool, true, false, if◌then◌else◌, filter, length, ℕ, suc, refl, ap, subst, ◌∙◌, arith}
use Rattle.std.specs.List.{list_all}
use Rattle.std.specs.Prelude.{drop, slice_get}
use Rattle.link_laws.proofs.Places.{some_is}
use Rattle.frame_laws.specs.Kits.{is_plain_message, is_plain_out}
use Rattle.act_rows.specs.Steps.{outs_to}
use Rattle.ignite_types.specs.Names.{same_node, same_top}
use Rattle.ignite_types.specs.declared.journal.Rec.{Rec}
use Rattle.ignite_types.specs.declared.message.Message.{Message}
use Rattle.ignite_types.specs.declared.message.Out.{Out}
use Rattle.ignite_types.specs.declared.names.NodeId.{NodeId}
use Rattle.part_model.specs.Orders.{is_node}
use Rattle.ignite_types.specs.declared.names.TopVer.{TopVer}
use Rattle.ignite_types.specs.declared.placement.PartMap.{PartMap}
use Rattle.journal_statements.specs.Noted.{Noted, noted_by}
use Rattle.journal_statements.specs.Versions.{has_opened, is_opened_in}
use Rattle.link_laws.proofs.Journals.{first_rest}
use Rattle.topology_laws.specs.TopologyFacts.{HoldsOfEach, is_opens_of, openings_by, opens_in_outbox}
use Rattle.topology_laws.specs.LeavesTopology.{says_no_topology}
use Rattle.ignite_types.specs.declared.message.Message.TheVariants as msg
use Rattle.ignite_types.specs.declared.journal.Rec.TheVariants as note

pub count_parts : {A : Type 0} (test : A → Bool) (xs ys : List A) → length (filter test (xs ++ ys)) ≡ length (filter test xs)
    + length (filter test ys)
count_parts test [] ys = none (length (filter test ys))
  where
    none : (n : ℕ) → n ≡ 0 + n
    none n = omega arith
count_parts test (x ∷ xs) ys =
    let rest = count_parts test xs ys in
    elim (test x) as (λ b. length (if b then x ∷ filter test (xs ++ ys) else filter test (xs ++ ys))
    ≡ length (if b then x ∷ filter test xs else filter test xs) + length (filter test ys)) [
      | true ↦ ap suc rest ∙ one (length (filter test xs)) (length (filter test ys))
      | false ↦ rest
    ]
  where
    one : (a b : ℕ) → suc (a + b) ≡ suc a + b
    one a b = omega arith

pub count_rest : {A : Type 0} (test : A → Bool) (xs : List A) → length (filter test (drop 1 xs)) ≤ length (filter test xs)
count_rest test [] = omega arith
count_rest test (x ∷ xs) =
    elim (test x) as (λ b. length (filter test xs) ≤ length (if b then x ∷ filter test xs else filter test xs)) [
      | true ↦ more (length (filter test xs))
      | false ↦ same (length (filter test xs))
    ]
  where
    more : (a : ℕ) → a ≤ suc a
    more a = omega arith

    same : (a : ℕ) → a ≤ a
    same a = omega arith

pub count_first : {A : Type 0} (test : A → Bool) (xs : List A) (x : A) → slice_get xs 0 ≡ Some x → test x ≡ true →
    length (filter test xs) ≡ suc (length (filter test (drop 1 xs)))
count_first test [] x is passes = absurd (cc (is))
count_first test (y ∷ ys) x is passes = let same = ap test (some_is y x is) ∙ passes in rw same refl

pub count_head : {A : Type 0} (test : A → Bool) (xs : List A) (x : A) → slice_get xs 0 ≡ Some x →
    length (filter test xs) ≡ (if test x then 1 else 0) + length (filter test (drop 1 xs))
count_head test [] x is = absurd (cc (is))
count_head test (y ∷ ys) x is =
    subst (λ z. length (filter test (y ∷ ys)) ≡ (if test z then 1 else 0) + length (filter test ys)) (some_is y x is)
    (elim (test y) as (λ b. length (if b then y ∷ filter test ys else filter test ys) ≡ (if b then 1 else 0)
    + length (filter test ys)) [
      | true ↦ one (length (filter test ys))
      | false ↦ none (length (filter test ys))
    ])
  where
    one : (a : ℕ) → suc a ≡ 1 + a
    one a = omega arith

    none : (a : ℕ) → a ≡ 0 + a
    none a = omega arith

pub no_more_in : {A : Type 0} (test : A → Bool) (xs : List A) → length (filter test xs) ≤ length (filter test xs)
no_more_in test xs = same (length (filter test xs))
  where
    same : (a : ℕ) → a ≤ a
    same a = omega arith

pub count_none : {A : Type 0} (test : A → Bool) (xs : List A) → HoldsOfEach (λ x. test x ≡ false) xs →
    length (filter test xs) ≡ 0
count_none test [] all = refl
count_none test (x ∷ xs) all = rw all.0 (count_none test xs all.1)

and_none : (a b : Bool) → b ≡ false → (a && b) ≡ false
and_none true b is = is
and_none false b is = refl

-- Records.

pub opened_parts : (v : TopVer) (to : NodeId) (recs more : List Noted) →
    openings_by v to (recs ++ more) ≡ openings_by v to recs + openings_by v to more
opened_parts v to recs more = count_parts (has_opened to v) recs more

quiet_opened : (v : TopVer) (r : Rec) → says_no_topology r ≡ true → is_opened_in v r ≡ false
quiet_opened v (note.Opened top) quiet = absurd (cc (quiet))
quiet_opened v _ quiet = refl

pub none_opened : (v : TopVer) (to : NodeId) (who : Option NodeId) (rs : List Rec) → list_all says_no_topology rs ≡ true →
    openings_by v to (noted_by who rs) ≡ 0
none_opened v to who [] quiet = refl
none_opened v to who (r ∷ rs) quiet =
    let both = first_rest (says_no_topology r) (list_all says_no_topology rs) quiet in
    rw (and_none (is_node to who) (is_opened_in v r) (quiet_opened v r both.0)) (none_opened v to who rs both.1)

pub install_opened : (v : TopVer) (to : NodeId) (who : Option NodeId) (m : PartMap) →
    openings_by v to (noted_by who (note.Install m ∷ [])) ≡ 0
install_opened v to who m = rw (and_none (is_node to who) false refl) refl

pub opened_here : (v top : TopVer) (to n : NodeId) → openings_by v to (noted_by (Some n) (note.Opened top ∷ [])) ≤ 1
opened_here v top to n =
    let n1 : Noted = record { node = Some n; rec = note.Opened top } in
    elim (same_node to n && same_top top v) as (λ b. length (if b then n1 ∷ [] else []) ≤ 1) [
      | true ↦ le_one
      | false ↦ le_none
    ]
  where
    le_one : 1 ≤ 1
    le_one = omega arith

    le_none : 0 ≤ 1
    le_none = omega arith

pub opened_elsewhere : (v top : TopVer) (to n : NodeId) → (same_node to n && same_top top v) ≡ false →
    openings_by v to (noted_by (Some n) (note.Opened top ∷ [])) ≡ 0
opened_elsewhere v top to n other = rw other refl

-- Messages.

plain_opens : (v : TopVer) (m : Message) → is_plain_message m ≡ true → is_opens_of v m ≡ false
plain_opens v (msg.Opens top) plain = absurd (cc (plain))
plain_opens v _ plain = refl

pub plain_out : (v : TopVer) (to : NodeId) (outs : List Out) → list_all is_plain_out outs ≡ true → opens_in_outbox v to outs ≡ 0
plain_out v to [] plain = refl
plain_out v to (o ∷ os) plain =
    let both = first_rest (is_plain_out o) (list_all is_plain_out os) plain in
    rw (and_none (same_node o.to to) (is_opens_of v o.msg) (plain_opens v o.msg both.0)) (plain_out v to os both.1)

-- messages of another kind to each of these
pub other_out : (v : TopVer) (to : NodeId) (nodes : List NodeId) (m : Message) → is_opens_of v m ≡ false →
    opens_in_outbox v to (outs_to nodes m) ≡ 0
other_out v to [] m other = refl
other_out v to (n ∷ ns) m other = rw (and_none (same_node n to) (is_opens_of v m) other) (other_out v to ns m other)

-- one message to each of these: as many as the node stands among them
abbrev pub times : NodeId → List NodeId → ℕ
times x xs = length (filter (λ (y : NodeId). same_node y x) xs)

pub each_out_times : (v : TopVer) (to : NodeId) (nodes : List NodeId) (m : Message) → opens_in_outbox v to (outs_to nodes m)
    ≤ times to nodes
each_out_times v to [] m = omega arith
each_out_times v to (n ∷ ns) m =
    let rest = each_out_times v to ns m in
    let o1 : Out = record { to = n; msg = m } in
    elim (same_node n to) as (λ b. length (if b && is_opens_of v m then o1 ∷ filter (λ (o : Out). same_node o.to to
    && is_opens_of v o.msg) (outs_to ns m) else filter (λ (o : Out). same_node o.to to && is_opens_of v o.msg)
    (outs_to ns m)) ≤ length (if b then n ∷ filter (λ (y : NodeId). same_node y to) ns else filter
    (λ (y : NodeId). same_node y to) ns)) [
      | true ↦
          elim (is_opens_of v m) as (λ c.
          length (if c then o1 ∷ filter (λ (o : Out). same_node o.to to && is_opens_of v o.msg) (outs_to ns m) else filter
          (λ (o : Out). same_node o.to to && is_opens_of v o.msg) (outs_to ns m))
          ≤ suc (length (filter (λ (y : NodeId). same_node y to) ns))) [
            | true ↦ both (opens_in_outbox v to (outs_to ns m)) (times to ns) rest
            | false ↦ one (opens_in_outbox v to (outs_to ns m)) (times to ns) rest
          ]
      | false ↦ rest
    ]
  where
    both : (a b : ℕ) → a ≤ b → suc a ≤ suc b
    both a b le = omega (arith, le)

    one : (a b : ℕ) → a ≤ b → a ≤ suc b
    one a b le = omega (arith, le)
