-- A map, seen as the list of its entries in the order of their keys: what is at a key, and the list with a key put in
-- or taken out. A look-up ends at the first greater key.
use Rattle.std.specs.Prelude.{List, [], ◌∷◌, Option, Some, None}
use Rattle.std.specs.declared.cmp.Ordering.{Ordering}
use Rattle.std.specs.Ordering.{match_ordering}

abbrev pub at : {K V : Type 0} → (K → K → Ordering) → List (K × V) → K → Option V
at cmp [] k = None
at cmp (e ∷ es) k = match_ordering (cmp k e.0) None (Some e.1) (at cmp es k)

abbrev pub put : {K V : Type 0} → (K → K → Ordering) → List (K × V) → K → V → List (K × V)
put cmp [] k v = (k, v) ∷ []
put cmp (e ∷ es) k v = match_ordering (cmp k e.0) ((k, v) ∷ e ∷ es) ((k, v) ∷ es) (e ∷ put cmp es k v)

abbrev pub without : {K V : Type 0} → (K → K → Ordering) → List (K × V) → K → List (K × V)
without cmp [] k = []
without cmp (e ∷ es) k = match_ordering (cmp k e.0) (e ∷ es) es (e ∷ without cmp es k)
