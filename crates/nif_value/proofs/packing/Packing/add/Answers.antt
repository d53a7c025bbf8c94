use Rattle.std.proofs.Common.{ℕ, ◌≡◌, ◌+◌, [], ap, sym, arith, inl, inr}
use Rattle.std.proofs.lemmas.Bool.Decides.{eqb_tells}
use Rattle.nif_cells.specs.Encoding.{Packed}
use Rattle.nif_value.proofs.Packs.{shifted}
use Rattle.nif_value.proofs.packing.Packing.add.Goals as goal

pub overflow_add-bits : goal.overflow_add-bits
overflow_add-bits c =
    let s = shifted c.args.self.now.left c.args.self.now.bits c.args.byte c.requires.left (omega arith) c.requires.bits in
    omega (arith, s.0, s.2)

same : (a b m n : ℕ) → a ≡ b → m ≡ n → ◌≡◌ {A = Packed} (record { words = []; bits = a; left = m }) (record { words = []; bits = b; left = n })
same a b m n e f = cc

pub returns-clause-more : goal.returns-clause-more
returns-clause-more c =
    let s = shifted c.args.self.now.left c.args.self.now.bits c.args.byte c.requires.left (omega arith) c.requires.bits in
    elim (eqb_tells c.args.self.now.left 7) [
      | inl e ↦ absurd (c.if-self-eq7.false e.1)
      | inr e ↦ rw e.0 (same _ _ _ _ (ap (λ n. c.args.self.now.bits + n) (sym s.0)) (omega arith))
    ]

pub returns-clause-bits : goal.returns-clause-bits
returns-clause-bits c =
    let s = shifted c.args.self.now.left c.args.self.now.bits c.args.byte c.requires.left (omega arith) c.requires.bits in
    rw s.0 s.1
