-- There are never more than 8 caches.
use Rattle.std.proofs.Common.{◌≡◌, ℕ, ◌+◌, ◌<◌, ◌≤◌, Bool, List, [], ◌∷◌, ◌++◌, length, arith, length-append, lit≤, subst}
use Rattle.std.specs.Prelude.{◌&&◌, nat_lt, nat_le, ◌==◌, Option, Some, None, Result, Ok, if◌then◌else◌}
use Rattle.std.proofs.lemmas.Bool.{cond_both, and_parts, ltb-true}
use Rattle.ignite_types.specs.declared.text.Key.{Key}
use Rattle.ignite_types.specs.declared.scenario.Cache.{Cache}
use Rattle.ignite_types.specs.declared.scenario.Item.{Item}
use Rattle.scen_text.specs.declared.cause.Cause.{Cause}
use Rattle.scen_text.specs.declared.draft.Draft.{Draft}
use Rattle.scen_text.specs.declared.limits.Kind.{Kind}
use Rattle.scen_text.specs.declared.line.CacheWords.{CacheWords}
use Rattle.scen_text.specs.declared.line.Line.{Line}
use Rattle.scen_text.specs.declared.line.Line.TheVariants as line
use Rattle.scen_text.specs.declared.line.Setting.{Setting}
use Rattle.scen_text.specs.Causes.{◌>>=◌}
use Rattle.scen_text.specs.Drafts.{draft_after_line, line_taken, total_with, with_cache, with_head, with_object, with_setting, with_start}
use Rattle.scen_text.specs.Known.{has_object}
use Rattle.scen_text.specs.Meaning.{line_meant}
use Rattle.scen_text.proofs.Holds.{Holds, then_holds, any_then, rule_then}

abbrev pub Few : Draft → Type 0
Few d = length d.caches ≤ 8

few_default : (format : ℕ) (cache : Cache) → length (if format == 1 then cache ∷ [] else []) ≤ 8
few_default format cache = cond_both (format == 1) (cache ∷ []) [] (λ (cs : List Cache). length cs ≤ 8)
    (λ t. lit≤ {m = 1} {n = 8} tt) (λ f. lit≤ {m = 0} {n = 8} tt)

few_head : (d : Draft) (format : ℕ) → Holds Few (with_head d format)
few_head d format = search (rule_then, few_default)

few_setting : (d : Draft) (setting : Setting) (n : ℕ) → Holds Few (with_setting d setting n)
few_setting d setting n = let few : 1 ≤ 8 = lit≤ tt in search (rule_then, few)

pub one_more : (d : Draft) (cache : Cache) (parts : ℕ) → Holds (λ total. length (d.caches ++ cache ∷ []) ≤ 8)
    (total_with d parts)
one_more d cache parts =
    cond_both (nat_lt (length d.caches) 8 && nat_le (d.partitions + parts) 1024) _ _
    (Holds (λ total. length (d.caches ++ cache ∷ []) ≤ 8))
    (λ e. let below : length d.caches < 8 = ltb-true _ _ (and_parts (nat_lt (length d.caches) 8) _ e).0 in
    omega (arith, length-append d.caches (cache ∷ [])))
    (λ e. tt)

few_cache : (d : Draft) (is_data : Bool) (words : CacheWords) → Holds Few (with_cache d is_data words)
few_cache d is_data words = search (rule_then, any_then {A = Cache} {B = Draft}, then_total d) depth 12
  where
    then_total : (d : Draft) (cache : Cache) (next : ℕ → Result Draft Cause) →
        ((total : ℕ) → length (d.caches ++ cache ∷ []) ≤ 8 → Holds Few (next total)) →
        Holds Few (total_with d cache.parts >>= next)
    then_total d cache next f = then_holds Few (λ total. length (d.caches ++ cache ∷ []) ≤ 8) (total_with d cache.parts) next
        (one_more d cache cache.parts) f

few_start : (d : Draft) (moment : ℕ) (words : CacheWords) → Holds Few (with_start d moment words)
few_start d moment words = search (rule_then, any_then {A = Cache} {B = Draft}, then_total d) depth 16
  where
    then_total : (d : Draft) (cache : Cache) (next : ℕ → Result Draft Cause) →
        ((total : ℕ) → length (d.caches ++ cache ∷ []) ≤ 8 → Holds Few (next total)) →
        Holds Few (total_with d cache.parts >>= next)
    then_total d cache next f = then_holds Few (λ total. length (d.caches ++ cache ∷ []) ≤ 8) (total_with d cache.parts) next
        (one_more d cache cache.parts) f

few_object : (d : Draft) (key : Key) (kind : Option Kind) → Few d → Few (with_object d key kind)
few_object d key None h = h
few_object d key (Some kind) h = cond_both (has_object d.objects key) _ _ Few (λ e. h) (λ e. h)

few_step : (d : Draft) (l : Line) → Few d → Holds Few (draft_after_line d l)
few_step d line.Blank h = h
few_step d (line.Head format) h = few_head d format
few_step d (line.Setting setting n) h = few_setting d setting n
few_step d (line.Cache is_data words) h = few_cache d is_data words
few_step d (line.Member member) h = search (rule_then, h) depth 16
few_step d (line.Join moment member) h = search (rule_then, h) depth 16
few_step d (line.Links moment s) h = search (rule_then, h) depth 16
few_step d (line.Start moment words) h = few_start d moment words
few_step d (line.Stop moment name) h = search (
  rule_then,
  any_then {A = List ℕ} {B = Draft},
  any_then {A = ℕ} {B = Draft},
  h,
) depth 16
few_step d (line.Session name node) h = search (rule_then, any_then {A = List ℕ} {B = Draft}, h) depth 16
few_step d (line.Bare command) h = search (rule_then, h) depth 16
few_step d (line.Keyed verb key) h =
    search (
      rule_then,
      any_then {A = List ℕ} {B = Draft},
      any_then {A = Key} {B = Draft},
      any_then {A = Item} {B = Draft},
      any_then {A = ℕ} {B = Draft},
      few_object,
      h,
    ) depth 16
few_step d line.End h = search (rule_then, h) depth 16

few_line : (d : Draft) (bytes : List ℕ) → Few d → Holds Few (line_taken d bytes)
few_line d bytes h = any_then Few (line_meant d.format bytes) _ (λ l. few_step d l h)

pub few_taken : (d : Draft) (bytes : List ℕ) (e : Draft) → line_taken d bytes ≡ Ok e → Few d → Few e
few_taken d bytes e is h =
    let P : Result Draft Cause → Type 0 = Holds Few in
    subst P is (few_line d bytes h)
