-- The leaves of basics.
use Rattle.std.proofs.Common.{◌≡◌, ℕ, List, Bool, true, false, cond, [], Option, Some, None, refl, sym, ap, subst}
use Rattle.std.specs.Prelude.{codes, unwrap_or, MatchOption}
use Rattle.std.specs.Str.{bytes_eq}
use Rattle.nif_schema.specs.Declaration.{Name}
use Rattle.nif_schema.specs.Basic.{listed_leaf, IsLeafOf, IsOtherLeaf, One, Two, Four, Eight, Unread, unsigned}
use Rattle.nif_schema.specs.declared.decls.Leaf.{Leaf}
use Rattle.nif_schema.specs.declared.decls.Leaf.TheVariants as leaf
use Rattle.nif_schema.specs.Leaves.{sized, leaf_of}

pub listed : (name : Name) (size : Option (List ℕ)) (l : Leaf) → listed_leaf name ≡ Some l → l ≡ leaf_of name size
unfolding leaf_of
listed name size l e = sym (ap (λ o. unwrap_or o (sized (unwrap_or size []))) e)

pub other : (name : Name) (size : Option (List ℕ)) → listed_leaf name ≡ None → sized (unwrap_or size []) ≡ leaf_of name size
unfolding leaf_of
other name size e = sym (ap (λ o. unwrap_or o (sized (unwrap_or size []))) e)

pub sized-nil : leaf.Unread ≡ sized []
unfolding sized
sized-nil = refl

by : (one two four eight : Bool) → IsOtherLeaf (cond one (unsigned 1) (cond two (unsigned 2) (cond four (unsigned 4) (cond eight (unsigned 8) leaf.Unread))))
by true two four eight = One
by false true four eight = Two
by false false true eight = Four
by false false false true = Eight
by false false false false = Unread

pub sized-other : (text : List ℕ) → IsOtherLeaf (sized text)
unfolding sized
sized-other text = by (bytes_eq text (codes "1")) (bytes_eq text (codes "2")) (bytes_eq text (codes "4")) (bytes_eq text (codes "8"))

pub own : (name : Name) (l : Leaf) → listed_leaf name ≡ None → IsOtherLeaf l → IsLeafOf name l
own name l e h = subst (λ (o : Option Leaf). MatchOption o (IsOtherLeaf l) (λ wanted. l ≡ wanted)) (sym e) h
