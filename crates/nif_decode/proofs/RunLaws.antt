-- A run of bytes, from its count to its end.
use Rattle.std.proofs.Common.{◌≡◌, ℕ, Bool, true, false, List, [], ◌∷◌, ◌++◌, Option, Some, None, refl, sym, ap, ◌∙◌, subst, arith}
use Rattle.std.proofs.lemmas.List.{length-map}
use Rattle.std.specs.Option.{IsSomeAnd}
use Rattle.nif_base.specs.declared.orders.Order.{Order}
use Rattle.nif_base.specs.Node as node
use Rattle.nif_stream.specs.Taking.{place_of, Takes}
use Rattle.nif_layout.specs.PathValue.{extended}
use Rattle.nif_cells.specs.Building.{InBytes, placed, opened, closed, lengthened}
use Rattle.nif_value.specs.Trees.{after, IsOpen}
use Rattle.nif_scope.specs.declared.entries.Entry.TheVariants as entry
use Rattle.nif_scope.specs.Told.{member_told}
use Rattle.nif_decode.specs.Answers.{Stand, IsReady, IsReadyTaker, ReadsNode}
use Rattle.nif_decode.specs.Begins.{Opens, IsRun}
use Rattle.nif_decode.specs.Kept.{row_head}
use Rattle.nif_decode.specs.Runs.{bytes_kept, HasRun, RunSoFar}

pub run_open : {S : Type 0} (old now : Stand S) → IsReady old 1 → now.taker ≡ old.taker → Opens (InBytes []) (entry.Nothing ∷ []) old now → HasRun now
run_open old now r same o = record {
  taker = subst (λ t. IsReadyTaker t) (sym same) r.taker;
  outer = r.room.tree.levels;
  is = o.building ∙ ap (λ b. after b (opened (InBytes []))) r.room.is;
  nodes = omega (arith, r.room.nodes, o.room);
  bytes = let p : place_of now.taker ≡ place_of old.taker = ap place_of same in omega (arith, r.room.bytes, p);
  levels = omega (arith, r.room.levels);
}

run_kept : (asked : Bool) (bytes : List ℕ) → row_head asked (bytes_kept asked bytes) ∷ bytes_kept asked bytes ≡ member_told asked (node.Bytes bytes)
run_kept true bytes = ap (λ n. entry.Items n ∷ bytes_kept true bytes) (length-map bytes (λ b. entry.Number b (extended true 1 b)))
run_kept false bytes = refl

pub run_is : {S : Type 0} (left : S → Option (List ℕ)) (still : S → S → Type 0) (faults : S → ℕ) (asked : Bool) (count : ℕ) (old mid now : Stand S) (r : IsReady old 1) → Opens (InBytes []) (entry.Nothing ∷ []) old mid
    → (s : RunSoFar left still faults asked count mid now) → now.building ≡ Some (record { top = None; levels = InBytes s.bytes ∷ r.room.tree.levels })
run_is left still faults asked count old mid now r o s =
    s.built ∙ ap (λ b. after b (lengthened s.bytes)) (o.building ∙ ap (λ b. after b (opened (InBytes []))) r.room.is)

pub run_closes : {S : Type 0} (left : S → Option (List ℕ)) (still : S → S → Type 0) (faults : S → ℕ) (asked : Bool) (count : ℕ) (old mid now : Stand S) → IsReady old 1 → Opens (InBytes []) (entry.Nothing ∷ []) old mid
    → RunSoFar left still faults asked count mid now → IsSomeAnd now.building IsOpen
run_closes left still faults asked count old mid now r o s =
    subst (λ b. IsSomeAnd b IsOpen) (sym (run_is left still faults asked count old mid now r o s)) (λ e. absurd (cc))

pub run_done : {S : Type 0} (left : S → Option (List ℕ)) (still : S → S → Type 0) (faults : S → ℕ) (order : Order) (asked : Bool) (count : ℕ) (old mid now new : Stand S) → IsReady old 1
    → mid.taker ≡ old.taker → Opens (InBytes []) (entry.Nothing ∷ []) old mid → (s : RunSoFar left still faults asked count mid now)
    → new.taker ≡ now.taker → new.nodes ≡ mid.nodes → new.building ≡ after now.building closed → new.told ≡ old.told ++ row_head asked (bytes_kept asked s.bytes) ∷ bytes_kept asked s.bytes
    → ReadsNode left still faults order (IsRun count) (member_told asked) old new
run_done left still faults order asked count old mid now new r sm o s sn nn b t = record {
  node = node.Bytes s.bytes;
  is = (s.bytes, refl, s.long, s.are);
  goes = record {
    takes = subst (λ x. Takes left still faults x s.bytes new.taker) sm (subst (λ x. Takes left still faults mid.taker s.bytes x) (sym sn) s.takes);
    nodes = nn ∙ o.nodes;
    counted = omega (arith, nn, o.nodes, o.room);
  };
  built = b ∙ ap (λ x. after x closed) (run_is left still faults asked count old mid now r o s) ∙ ap (λ x. after x (placed (node.Bytes s.bytes))) (sym r.room.is);
  told = t ∙ ap (λ x. old.told ++ x) (run_kept asked s.bytes);
}
