-- When an edit is refused, and why: the first condition that holds.
use Rattle.std.specs.Prelude.{ℕ, zero, suc, ◌≡◌, ◌≢◌, ◌+◌, ◌-◌, ◌^◌, ◌<◌, ◌≤◌, ◌⊎◌, Bool, true, false, not, ◌==◌, ◌&&◌, None, Some, List, [], ◌∷◌, ◌++◌, length, if◌then◌else◌}
use Rattle.std.specs.declared.option.Option.{Option}
use Rattle.nif_base.specs.Limits.{most_blocks, most_types, most_nodes, most_file_bytes, most_depth}
use Rattle.nif_base.specs.Node as node
use Rattle.nif_base.specs.Node.{Node, Members, End, Here, Absent, Reference, refs, size}
use Rattle.nif_base.specs.File.{nodes_of}
use Rattle.nif_base.specs.Graph.{Named, Graph}
use Rattle.nif_schema.specs.Declaration.{Name}
use Rattle.nif_schema.specs.Schema.{Schema, find_block, is_a}
use Rattle.nif_schema.specs.Uses.{what_at}
use Rattle.nif_schema.specs.Reasons.{IsReason}
use Rattle.nif_schema.specs.declared.decls.What.TheVariants as what
use Rattle.nif_schema.specs.declared.faults.Closed.{Closed}
use Rattle.nif_layout.specs.Zero.{zero_of}
use Rattle.nif_graph.specs.Graph.{is_live, reference, kind_of}
use Rattle.nif_graph.specs.Changes.{IsOrder}
use Rattle.nif_graph.specs.Reach.{Walk, Leads, Reaches, is_wanted}
use Rattle.nif_graph.specs.Written.{numbered}
use Rattle.nif_graph.specs.declared.places.RolePlaces.{RolePlaces}
use Rattle.nif_edit.specs.declared.edits.Edit.{Edit}
use Rattle.nif_edit.specs.declared.edits.Edit.TheVariants.{Remove, Copy, Insert, Replace, Move, Reorder, Point}
use Rattle.nif_edit.specs.Edit.{EditFault, NoBlock, NoPlace, UnknownType, AbstractType, ClosedType, NotAnOrder, WrongType, WouldCycle, TooManyBlocks, TooManyTypes, TooManyNodes, TooLong, TooDeep, NamesSpent}
use Rattle.nif_edit.specs.Inserted.{context_of, is_appended, inserted}
use Rattle.nif_edit.specs.After.{after}
use Rattle.nif_edit.specs.Size.{bytes_of}

-- ---- conditions in order

-- one condition, and its fault
abbrev pub Where : Type 0 → EditFault → EditFault → Type 0
Where P fault f = P × (f ≡ fault)

-- the first condition, or where it doesn't hold the second
abbrev pub First : (EditFault → Type 0) → (EditFault → Type 0) → EditFault → Type 0
First A B f = A f ⊎ (((g : EditFault) → A g → ⊥) × B f)

-- what is asked only where something holds
abbrev pub If : Type 0 → (EditFault → Type 0) → EditFault → Type 0
If P A f = P × A f

-- what is asked of a number that is there
abbrev pub Of : Option ℕ → (ℕ → EditFault → Type 0) → EditFault → Type 0
Of None A f = ⊥
Of (Some n) A f = A n f

-- ---- blocks and places

-- the block of a name isn't there
abbrev pub Dead : Graph → ℕ → EditFault → Type 0
Dead G name = Where (is_live name G.blocks ≡ false) (NoBlock name)

-- ---- types

-- the references of all blocks but one
abbrev pub refs_beside : ℕ → List Named → List Reference
refs_beside name [] = []
refs_beside name (b ∷ blocks) =
    if name == b.name then refs_beside name blocks else refs b.block.node ++ refs_beside name blocks

abbrev pub aims_at : ℕ → Option ℕ → Bool
aims_at name None = false
aims_at name (Some target) = target == name

-- the reference is to a block, and is well typed while this is of the old type, and no longer with the new one
abbrev pub goes_wrong : Schema → ℕ → Option ℕ → Option ℕ → Reference → Bool
goes_wrong S name old new r =
    aims_at name r.target && (is_wanted S r.wanted old && not (is_wanted S r.wanted new))

-- the first reference for which a test holds
abbrev pub first_of : (Reference → Bool) → List Reference → Option Reference
first_of test [] = None
first_of test (r ∷ rs) = if test r then Some r else first_of test rs

-- a reference to the block would go wrong, the first in order of blocks and then of the footer
abbrev pub Mistypes : Schema → Graph → ℕ → ℕ → EditFault → Type 0
Mistypes S G name by f =
    (r : Reference) × (wanted kind : ℕ)
    × (first_of (goes_wrong S name (kind_of G name) (kind_of G by)) (refs_beside name G.blocks ++ refs G.footer) ≡ Some r)
    × (r.wanted ≡ Some wanted) × (kind_of G by ≡ Some kind) × (f ≡ WrongType wanted kind)

-- the reference wants a type, and the block isn't of it
abbrev pub Unsuited : Schema → Graph → Option Reference → ℕ → EditFault → Type 0
Unsuited S G None name f = ⊥
Unsuited S G (Some r) name f =
    (wanted kind : ℕ) × (r.wanted ≡ Some wanted) × (kind_of G name ≡ Some kind) × (is_a S kind wanted ≡ false)
    × (f ≡ WrongType wanted kind)

-- ---- cycles

-- A strong reference of a block would close a walk, also one of no step, where it is to the block itself. The footer
-- closes none.
abbrev pub Closes : Graph → Option ℕ → Option Reference → ℕ → Type 0
Closes G None r to = ⊥
Closes G (Some name) None to = ⊥
Closes G (Some name) (Some r) to = (r.strong ≡ true) × Walk (Leads G.blocks) to name

-- ---- limits

-- no more blocks, and no more names
abbrev pub Full : Graph → EditFault → Type 0
Full G = Where (most_blocks ≤ length G.blocks) TooManyBlocks

abbrev pub Spent : Graph → EditFault → Type 0
Spent G = Where (G.next ≡ 2 ^ 32 - 1) NamesSpent

-- the file of a graph would have too many nodes, or bytes
abbrev pub TooLarge : Schema → RolePlaces → Graph → EditFault → Type 0
TooLarge S places G = First (Where (most_nodes < nodes_of (numbered places G)) TooManyNodes)
    (Where (most_file_bytes < bytes_of S places G) TooLong)

-- ---- the zero node

abbrev pub IsAbstract : Schema → ℕ → Type 0
IsAbstract S number = (parent : Option Name) × (what_at S number ≡ Some (what.Block parent true))

-- the type is closed
abbrev pub ClosedFor : Schema → ℕ → EditFault → Type 0
ClosedFor S number f = (reason : Closed) × IsReason S number (Some reason) × (f ≡ ClosedType reason)

-- One step of the walk over a node: whether it is a group that lies too deep, and its own bytes.
pub record Step : Type 0 where
  pub deep : Bool
  pub bytes : ℕ

abbrev pub step : Bool → ℕ → Step
step deep bytes = record { deep = deep; bytes = bytes }

abbrev mutual
  -- the nodes and absent members of a node, in order, where groups may lie d deep
  pub steps : ℕ → Node → List Step
  steps d (node.Num width little bits) = step false width ∷ []
  steps d (node.Line bytes) = step false (length bytes + 1) ∷ []
  steps d (node.Ref strong wanted target) = step false 4 ∷ []
  steps d (node.Text index) = step false 4 ∷ []
  steps d (node.Bytes bytes) = step false (length bytes) ∷ []
  steps zero (node.Group members) = step true 0 ∷ []
  steps (suc d) (node.Group members) = step false 0 ∷ steps_in d members
  steps d (node.Row items) = step false 0 ∷ steps_in d items

  pub steps_in : ℕ → Members → List Step
  steps_in d End = []
  steps_in d (Here node rest) = steps d node ++ steps_in d rest
  steps_in d (Absent rest) = step false 0 ∷ steps_in d rest

-- What the walk meets first, with so many nodes, that of the next step among them, and so many bytes before it.
abbrev pub Overruns : ℕ → ℕ → List Step → EditFault → Type 0
Overruns nodes bytes [] f = ⊥
Overruns nodes bytes (s ∷ rest) f =
    First (Where (s.deep ≡ true) TooDeep) (First (Where (most_nodes < nodes) TooManyNodes)
    (First (Where (most_file_bytes < bytes + s.bytes) TooLong) (Overruns (suc nodes) (bytes + s.bytes) rest))) f

-- The header and what stands before the block are counted first: all but the nodes of the block behind its first.
abbrev pub ZeroOverruns : Schema → RolePlaces → Graph → Name → ℕ → ℕ → EditFault → Type 0
ZeroOverruns S places G kind at number =
    Overruns (nodes_of (numbered places (inserted places G kind at number (node.Group End))))
    (bytes_of S places (inserted places G kind at number (node.Group End)))
    (steps most_depth (zero_of S (context_of G (Some number)) number))

-- ---- the fault of an edit

-- The first condition that holds gives it.
abbrev pub Refused : Schema → RolePlaces → Graph → Edit → EditFault → Type 0
Refused S places G (Remove name) = Dead G name
Refused S places G (Copy name at) =
    First (Dead G name) (First (Where (length G.blocks < at) (NoPlace at)) (First (Full G)
    (First (TooLarge S places (after S places G (Copy name at))) (Spent G))))
Refused S places G (Insert kind at) =
    First (Where (length G.blocks < at) (NoPlace at)) (First (Where (find_block S kind ≡ None) UnknownType)
    (Of (find_block S kind) (λ number. First (Where (IsAbstract S number) AbstractType) (First (ClosedFor S number)
    (First (Full G) (First (Where ((is_appended places G kind ≡ true) × (most_types ≤ length G.types)) TooManyTypes)
    (First (ZeroOverruns S places G kind at number) (Spent G))))))))
Refused S places G (Replace name by) =
    First (Dead G name) (First (Dead G by) (If (name ≢ by) (First (Mistypes S G name by)
    (First (Where (Reaches G.blocks by name) WouldCycle) (TooLarge S places (after S places G (Replace name by)))))))
Refused S places G (Move name at) = First (Dead G name) (Where (length G.blocks ≤ at) (NoPlace at))
Refused S places G (Reorder names) = Where (IsOrder names G.blocks → ⊥) NotAnOrder
Refused S places G (Point from k to) =
    First (Of from (Dead G)) (First (Of to (Dead G)) (First (Where (reference G from k ≡ None) (NoPlace k))
    (Of to (λ name. First (Unsuited S G (reference G from k) name)
    (Where (Closes G from (reference G from k) name) WouldCycle)))))

-- Nothing refuses the edit.
abbrev pub Accepted : Schema → RolePlaces → Graph → Edit → Type 0
Accepted S places G e = (f : EditFault) → Refused S places G e f → ⊥

-- each edit is accepted at its turn
abbrev pub AllAccepted : Schema → RolePlaces → Graph → List Edit → Type 0
AllAccepted S places G [] = Unit {0}
AllAccepted S places G (e ∷ edits) = Accepted S places G e × AllAccepted S places (after S places G e) edits
