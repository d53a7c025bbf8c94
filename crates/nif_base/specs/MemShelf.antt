-- What a shelf in memory tells: everything, and the last refusal until memory runs out for the name of one.
use Rattle.std.specs.Prelude.{◌≡◌, ℕ, Bool, List, [], None, Some, refl, Vec}
use Rattle.std.proofs.Common.{◌∙◌, ap}
use Rattle.std.specs.declared.option.Option.{Option}
use Rattle.std.specs.Option.{option_and_then}
use Rattle.std.specs.declared.alloc.Global.{Global}
use Rattle.nif_base.specs.MemCalls.{Calls}
use Rattle.nif_base.specs.Shelf.{Desk}
use Rattle.nif_base.specs.ShelfView.{View}
use Rattle.nif_base.specs.MemParts.{desk_of, refusal_of, rest_of, rest_under}
use Rattle.nif_base.specs.declared.mem_files.MemFiles.{MemFiles}
use Rattle.nif_base.specs.declared.mem_shelf.MemShelf.{MemShelf}

-- the bytes still to come
abbrev pub left_of : MemShelf → Option (List ℕ)
left_of s = Some (rest_under s.input (rest_of s.given))

abbrev pub view_of : MemShelf → View
view_of s = record {
  left = left_of s;
  desk = Some (desk_of s.files s.input);
  taken = Some s.files.taken.items;
  refused = refusal_of s.refusals;
  reads = s.read_faults;
  writes = s.write_faults;
  opens = s.refusals.faults;
}

-- whether refusals are told: until memory runs out for the name of one
abbrev pub tells_refusals : MemShelf → Bool
tells_refusals s = s.refusals.tells

-- its calls, and those that are to fail
abbrev pub calls_of : MemShelf → Calls
calls_of s = s.calls

-- how many bytes a call gives or takes at most
abbrev pub piece_of : MemShelf → ℕ
piece_of s = s.piece

-- ---- laws

some_is_none : {A : Type 0} {x : A} → ◌≡◌ {A = Option A} (Some x) None → ⊥
some_is_none e = cc

pub no_input_left : (files : MemFiles) (input : Option (Vec ℕ Global)) (bytes : List ℕ) (d : Desk)
    → Some (desk_of files input) ≡ Some d → d.input ≡ None → Some (rest_under input bytes) ≡ Some []
no_input_left files None bytes d e f = refl
no_input_left files (Some n) bytes d e f = absurd (some_is_none (ap (λ o. option_and_then (λ d. d.input) o) e ∙ f))
