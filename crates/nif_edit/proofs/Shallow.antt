-- An insertion that is accepted puts in a zero node in which no group lies too deep.
use Rattle.std.proofs.Common.{◌≡◌, ℕ, zero, suc, ◌+◌, ◌≤◌, max, Bool, true, false, List, [], ◌∷◌, ◌++◌, refl, arith}
use Rattle.nif_base.specs.Node as node
use Rattle.nif_base.specs.Node.{Node, Members, End, Here, Absent, depth, depth_in}
use Rattle.nif_edit.specs.Edit.{EditFault, TooDeep}
use Rattle.nif_edit.specs.Refused.{Step, steps, steps_in, Overruns}
use Rattle.nif_edit.proofs.Seen.{not_first, not_second}

-- none is a group that lies too deep
abbrev pub Shallow : List Step → Type 0
Shallow [] = Unit {0}
Shallow (s ∷ rest) = (s.deep ≡ false) × Shallow rest

pub front : (a b : List Step) → Shallow (a ++ b) → Shallow a
front [] b h = tt
front (s ∷ a) b h = (h.0, front a b h.1)

pub back : (a b : List Step) → Shallow (a ++ b) → Shallow b
back [] b h = h
back (s ∷ a) b h = back a b h.1

both_at_most : (a b d : ℕ) → a ≤ d → b ≤ d → max a b ≤ d
both_at_most a b d x y = grind (arith, x, y)

mutual
  pub shallow_depth : (d : ℕ) (at : Node) → Shallow (steps d at) → depth at ≤ d
  shallow_depth d (node.Num width little bits) h = omega arith
  shallow_depth d (node.Line bytes) h = omega arith
  shallow_depth d (node.Ref strong wanted target) h = omega arith
  shallow_depth d (node.Text index) h = omega arith
  shallow_depth d (node.Bytes bytes) h = omega arith
  shallow_depth zero (node.Group members) h = absurd (let e : true ≡ false = h.0 in cc)
  shallow_depth (suc d) (node.Group members) h = let l : depth_in members ≤ d = shallow_depth_in d members h.1 in omega arith
  shallow_depth d (node.Row items) h = shallow_depth_in d items h.1

  shallow_depth_in : (d : ℕ) (members : Members) → Shallow (steps_in d members) → depth_in members ≤ d
  shallow_depth_in d End h = omega arith
  shallow_depth_in d (Here at rest) h =
      both_at_most (depth at) (depth_in rest) d (shallow_depth d at (front (steps d at) (steps_in d rest) h))
      (shallow_depth_in d rest (back (steps d at) (steps_in d rest) h))
  shallow_depth_in d (Absent rest) h = shallow_depth_in d rest h.1

pub all_shallow : (nodes bytes : ℕ) (list : List Step) → ((f : EditFault) → Overruns nodes bytes list f → ⊥) → Shallow list
all_shallow nodes bytes [] h = tt
all_shallow nodes bytes (s ∷ rest) h = (
  by s.deep (λ e. not_first h TooDeep (e, refl)),
  all_shallow (suc nodes) (bytes + s.bytes) rest (not_second (not_second (not_second h))),
)
  where
    by : (b : Bool) → (b ≡ true → ⊥) → b ≡ false
    by true h = absurd (h refl)
    by false h = refl
