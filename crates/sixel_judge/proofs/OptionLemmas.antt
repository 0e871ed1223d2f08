-- On optional values.
use Rattle.std.proofs.Common.{◌≡◌, Option, Some, None, false, not, refl, sym, ◌∙◌}
use Rattle.std.specs.Prelude.{is_none, is_some, unwrap_or, IfSome, IsSome}
use Rattle.std.specs.Option.{option_map, option_or}

pub some_value : {A : Type 0} (o : Option A) → IsSome o → (a : A) × (o ≡ Some a)
some_value None h = cc
some_value (Some a) h = (a, refl)

pub some_from : {A : Type 0} (o : Option A) → is_none o ≡ false → IsSome o
some_from None h = cc
some_from (Some a) h = refl

pub none_is : {A : Type 0} (o : Option A) → is_none o ≡ not (is_some o)
none_is None = refl
none_is (Some a) = refl

pub none_from : {A : Type 0} (o : Option A) → ¬ IsSome o → o ≡ None
none_from None h = refl
none_from (Some a) h = absurd (h refl)

pub same_value : {A : Type 0} (o : Option A) (a b : A) → o ≡ Some a → o ≡ Some b → a ≡ b
same_value o a b h k = let e : Some a ≡ Some b = sym h ∙ k in cc

pub or_each : {A : Type 0} (P : A → Type 0) (o p : Option A) → IfSome o P → IfSome p P → IfSome (option_or o p) P
or_each P None p h k = k
or_each P (Some x) p h k = h

pub unwrap_same : {A : Type 0} (o : Option A) (a b : A) → IsSome o → unwrap_or o a ≡ unwrap_or o b
unwrap_same None a b h = cc
unwrap_same (Some c) a b h = refl

pub map_some : {A B : Type 0} (f : A → B) (o : Option A) → IsSome o → IsSome (option_map f o)
map_some f None h = cc
map_some f (Some a) h = refl
