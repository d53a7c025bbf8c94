-- An edit has at most one fault.
use Rattle.std.proofs.Common.{◌≡◌, ◌≢◌, ℕ, suc, ◌+◌, inl, inr, Option, Some, None, List, [], ◌∷◌, refl, sym, ◌∙◌, ap, ap₂}
use Rattle.nif_base.specs.Node.{Reference}
use Rattle.nif_base.specs.Graph.{Graph}
use Rattle.nif_schema.specs.Schema.{Schema, find_block}
use Rattle.nif_schema.specs.Uses.{Here}
use Rattle.nif_schema.specs.Reasons.{IsReason, Open, Own, Uses}
use Rattle.nif_schema.specs.declared.faults.Closed.{Closed}
use Rattle.nif_graph.specs.Graph.{reference}
use Rattle.nif_graph.specs.declared.places.RolePlaces.{RolePlaces}
use Rattle.nif_edit.specs.declared.edits.Edit.TheVariants.{Remove, Copy, Insert, Replace, Move, Reorder, Point}
use Rattle.nif_edit.specs.Edit.{EditFault, NoBlock, WrongType, ClosedType}
use Rattle.nif_edit.specs.After.{after}
use Rattle.nif_edit.specs.Refused.{First, Where, If, Of, Dead, Mistypes, Unsuited, ClosedFor, Step, Overruns, TooLarge}
use Rattle.nif_edit.specs.Laws.{OneFault}

abbrev AtMostOne : (EditFault → Type 0) → Type 0
AtMostOne A = (f g : EditFault) → A f → A g → f ≡ g

-- the first condition that holds is one
first : {A B : EditFault → Type 0} → AtMostOne A → AtMostOne B → AtMostOne (First A B)
first a b f g (inl x) (inl y) = a f g x y
first a b f g (inl x) (inr y) = absurd (y.0 f x)
first a b f g (inr x) (inl y) = absurd (x.0 g y)
first a b f g (inr x) (inr y) = b f g x.1 y.1

where_one : (P : Type 0) (fault : EditFault) → AtMostOne (Where P fault)
where_one P fault f g x y = x.1 ∙ sym y.1

of_one : {A : ℕ → EditFault → Type 0} → ((n : ℕ) → AtMostOne (A n)) → (o : Option ℕ) → AtMostOne (Of o A)
of_one a None f g x y = absurd x
of_one a (Some n) f g x y = a n f g x y

if_one : {A : EditFault → Type 0} → (P : Type 0) → AtMostOne A → AtMostOne (If P A)
if_one P a f g x y = a f g x.1 y.1

dead : (G : Graph) (n : ℕ) → AtMostOne (Dead G n)
dead G n = where_one _ (NoBlock n)

mistypes : (S : Schema) (G : Graph) (name by : ℕ) → AtMostOne (Mistypes S G name by)
mistypes S G name by f g x y =
    let r : Some x.0 ≡ Some y.0 = sym x.3 ∙ y.3 in
    let r' : x.0 ≡ y.0 = cc in
    let w : Some x.1 ≡ Some y.1 = sym x.4 ∙ ap (λ (r : Reference). r.wanted) r' ∙ y.4 in
    let k : Some x.2 ≡ Some y.2 = sym x.5 ∙ y.5 in
    let w' : x.1 ≡ y.1 = cc in
    let k' : x.2 ≡ y.2 = cc in
    x.6 ∙ ap₂ (λ a b. WrongType a b) w' k' ∙ sym y.6

unsuited : (S : Schema) (G : Graph) (r : Option Reference) (to : ℕ) → AtMostOne (Unsuited S G r to)
unsuited S G None to f g x y = absurd x
unsuited S G (Some r) to f g x y =
    let w : Some x.0 ≡ Some y.0 = sym x.2 ∙ y.2 in
    let k : Some x.1 ≡ Some y.1 = sym x.3 ∙ y.3 in
    let w' : x.0 ≡ y.0 = cc in
    let k' : x.1 ≡ y.1 = cc in
    x.5 ∙ ap₂ (λ a b. WrongType a b) w' k' ∙ sym y.5

-- a type has one reason
one_reason : (S : Schema) (number : ℕ) (a b : Option Closed) → IsReason S number a → IsReason S number b → a ≡ b
one_reason S number a b (Open o) (Open o') = refl
one_reason S number a b (Open o) (Own reason e) = absurd (let n : None ≡ Some reason = sym (o number (Here number)) ∙ e in cc)
one_reason S number a b (Open o) (Uses e r) = absurd (r.closed (o r.to r.walk))
one_reason S number a b (Own reason e) (Open o) = absurd (let n : None ≡ Some reason = sym (o number (Here number)) ∙ e in cc)
one_reason S number a b (Own x e) (Own y e') = sym e ∙ e'
one_reason S number a b (Own reason e) (Uses e' r) = absurd (let n : None ≡ Some reason = sym e' ∙ e in cc)
one_reason S number a b (Uses e r) (Open o) = absurd (r.closed (o r.to r.walk))
one_reason S number a b (Uses e r) (Own reason e') = absurd (let n : None ≡ Some reason = sym e ∙ e' in cc)
one_reason S number a b (Uses e r) (Uses e' r') = refl

closed_one : (S : Schema) (number : ℕ) → AtMostOne (ClosedFor S number)
closed_one S number f g x y =
    let e : Some x.0 ≡ Some y.0 = one_reason S number (Some x.0) (Some y.0) x.1 y.1 in
    let e' : x.0 ≡ y.0 = cc in
    x.2 ∙ ap (λ r. ClosedType r) e' ∙ sym y.2

overruns_one : (nodes bytes : ℕ) (steps : List Step) → AtMostOne (Overruns nodes bytes steps)
overruns_one nodes bytes [] f g x y = absurd x
overruns_one nodes bytes (s ∷ steps) f g x y =
    first (where_one _ _) (first (where_one _ _) (first (where_one _ _) (overruns_one (suc nodes) (bytes + s.bytes) steps))) f g x y

too_large : (S : Schema) (places : RolePlaces) (G : Graph) → AtMostOne (TooLarge S places G)
too_large S places G = first (where_one _ _) (where_one _ _)

pub one_fault : OneFault
one_fault S places G (Remove name) = dead G name
one_fault S places G (Copy name at) =
    first (dead G name) (first (where_one _ _) (first (where_one _ _)
    (first (too_large S places (after S places G (Copy name at))) (where_one _ _))))
one_fault S places G (Insert kind at) =
    first (where_one _ _) (first (where_one _ _) (of_one (λ number. first (where_one _ _) (first (closed_one S number)
    (first (where_one _ _) (first (where_one _ _) (first (overruns_one _ _ _) (where_one _ _)))))) (find_block S kind)))
one_fault S places G (Replace name by) =
    first (dead G name) (first (dead G by) (if_one (name ≢ by) (first (mistypes S G name by) (first (where_one _ _)
    (too_large S places (after S places G (Replace name by)))))))
one_fault S places G (Move name at) = first (dead G name) (where_one _ _)
one_fault S places G (Reorder names) = where_one _ _
one_fault S places G (Point from k to) =
    first (of_one (dead G) from) (first (of_one (dead G) to) (first (where_one _ _)
    (of_one (λ name. first (unsuited S G (reference G from k) name) (where_one _ _)) to)))
