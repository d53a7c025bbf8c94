-- What a shelf tells, and how reads and writes change it.
use Rattle.std.specs.Prelude.{◌≡◌, ℕ, ◌≤◌, List, [], ◌++◌, None, Some, refl}
use Rattle.std.proofs.Common.{sym, ◌∙◌, ap, arith, append-nil, append_assoc}
use Rattle.std.specs.declared.option.Option.{Option}
use Rattle.std.specs.Option.{option_map}
use Rattle.nif_base.specs.Outside.{appended}
use Rattle.nif_base.specs.Shelf.{Desk, Refusal, written, files_written-nil, files_written-joined}

-- a shelf as it is told: bytes still to come, desk, bytes taken, last refusal and counts of faults
pub record View : Type 0 where
  pub left : Option (List ℕ)
  pub desk : Option Desk
  pub taken : Option (List ℕ)
  pub refused : Option Refusal
  pub reads : ℕ
  pub writes : ℕ
  pub opens : ℕ

-- nothing but reads was done
pub record Stayed (old new : View) : Type 0 where
  pub desk : new.desk ≡ old.desk
  pub taken : new.taken ≡ old.taken
  pub refused : new.refused ≡ old.refused
  pub reads : old.reads ≤ new.reads
  pub writes : old.writes ≤ new.writes
  pub opens : old.opens ≤ new.opens

-- nothing but writes of bs was done
pub record Grew (old : View) (bs : List ℕ) (new : View) : Type 0 where
  pub left : new.left ≡ old.left
  pub desk : new.desk ≡ option_map (written bs) old.desk
  pub taken : new.taken ≡ appended old.taken bs
  pub refused : new.refused ≡ old.refused
  pub reads : old.reads ≤ new.reads
  pub writes : old.writes ≤ new.writes
  pub opens : old.opens ≤ new.opens

-- a shelf that tells nothing but counts
abbrev pub untold : ℕ → ℕ → ℕ → View
untold reads writes opens = record { left = None; desk = None; taken = None; refused = None; reads = reads; writes = writes; opens = opens }

-- ---- laws

pub stayed_same : (v : View) → Stayed v v
stayed_same v = record { desk = refl; taken = refl; refused = refl; reads = omega arith; writes = omega arith; opens = omega arith }

pub stayed_joined : (u v w : View) → Stayed u v → Stayed v w → Stayed u w
stayed_joined u v w p q = record {
  desk = q.desk ∙ p.desk;
  taken = q.taken ∙ p.taken;
  refused = q.refused
      ∙ p.refused;
  reads = omega arith;
  writes = omega arith;
  opens = omega arith;
}

written_none : (d : Option Desk) → d ≡ option_map (written []) d
written_none None = refl
written_none (Some d) = ap (λ files. Some (record d { files = files })) (sym (files_written-nil d.files d.output))

written_twice : (d : Option Desk) (x y : List ℕ)
    → option_map (written y) (option_map (written x) d) ≡ option_map (written (x ++ y)) d
written_twice None x y = refl
written_twice (Some d) x y = ap (λ files. Some (record d { files = files })) (files_written-joined d.files d.output x y)

appended_none : (t : Option (List ℕ)) → t ≡ appended t []
appended_none None = refl
appended_none (Some t) = ap Some (sym (append-nil t))

appended_twice : (t : Option (List ℕ)) (x y : List ℕ) → appended (appended t x) y ≡ appended t (x ++ y)
appended_twice None x y = refl
appended_twice (Some t) x y = ap Some (append_assoc t x y)

-- nothing was written
pub grew_none : (u v : View) → v.left ≡ u.left → v.desk ≡ u.desk → v.taken ≡ u.taken → v.refused ≡ u.refused
    → u.reads ≤ v.reads → u.writes ≤ v.writes → u.opens ≤ v.opens → Grew u [] v
grew_none u v left desk taken refused reads writes opens =
    record {
      left = left;
      desk = desk ∙ written_none u.desk;
      taken = taken
          ∙ appended_none u.taken;
      refused = refused;
      reads = reads;
      writes = writes;
      opens = opens;
    }

pub grew_same : (v : View) → Grew v [] v
grew_same v = grew_none v v refl refl refl refl (omega arith) (omega arith) (omega arith)

pub grew_joined : (u v w : View) (x y z : List ℕ) → Grew u x v → Grew v y w → x ++ y ≡ z → Grew u z w
grew_joined u v w x y z p q e = record {
  left = q.left ∙ p.left;
  desk =
      q.desk ∙ ap (option_map (written y)) p.desk ∙ written_twice u.desk x y
      ∙ ap (λ bs. option_map (written bs) u.desk) e;
  taken = q.taken ∙ ap (λ t. appended t y) p.taken ∙ appended_twice u.taken x y ∙ ap (appended u.taken) e;
  refused = q.refused ∙ p.refused;
  reads = omega arith;
  writes = omega arith;
  opens = omega arith;
}
