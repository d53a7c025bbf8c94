-- The lines of a script, one after another.
use Rattle.std.proofs.Common.{◌≡◌, ℕ, ◌+◌, false, cond, List, [], ◌∷◌, ◌++◌, Some, None, Option, refl, sym, ap, ◌∙◌, append_assoc, append-nil, ◌⊎◌, inl, inr}
use Rattle.std.specs.List.{position_from}
use Rattle.std.specs.Option.{option_map, is_none}
use Rattle.nif_edit.specs.declared.edits.Edit.{Edit}
use Rattle.nif_script.specs.declared.faults.ScriptFault.{ScriptFault}
use Rattle.nif_script.specs.declared.faults.ScriptFault.TheVariants as fault
use Rattle.nif_script.specs.Forms.{Text, both}
use Rattle.nif_script.specs.Scripts.{line_of, lines_of, edits_in, edits_of, is_bad, bad_line, IsRefused}
use Rattle.nif_script.specs.Kept.{Adds, IsRefusedAt}

-- the edits of the lines, with those of the lines before them
abbrev pub edits_behind : List Edit → List Text → Option (List Edit)
edits_behind before lines = option_map (λ more. before ++ more) (edits_in lines)

-- the first line of no form, behind so many that are of a form
abbrev pub bad_behind : ℕ → List Text → Option ℕ
bad_behind number lines = position_from is_bad (number + 1) lines

pub edits_start : (script : Text) (before : List Edit) → before ≡ [] → edits_of script ≡ edits_behind before (lines_of script)
unfolding edits_of
edits_start script before e = start (edits_in (lines_of script)) ∙ ap (λ l. option_map (λ more. l ++ more) (edits_in (lines_of script))) (sym e)
  where
    start : (edits : Option (List Edit)) → edits ≡ option_map (λ more. [] ++ more) edits
    start None = refl
    start (Some edits) = refl

pub bad_start : (script : Text) → bad_line script ≡ bad_behind 0 (lines_of script)
unfolding bad_line
bad_start script = refl

-- one more line was read
more : (before after : List Edit) (line : Option (List Edit)) (lines : Option (List Edit)) → option_map (λ edits. before ++ edits) line ≡ Some after
    → option_map (λ l. before ++ l) (both (λ edits l. edits ++ l) line lines) ≡ option_map (λ l. after ++ l) lines
more before after None lines e = cc
more before after (Some edits) None e = refl
more before after (Some edits) (Some l) e =
    let same : before ++ edits ≡ after = cc in
    ap Some (sym (append_assoc before edits l) ∙ ap (λ m. m ++ l) same)

pub edits_more : (all : Option (List Edit)) (before after : List Edit) (old lines : List Text) (line : Text) → all ≡ edits_behind before old → old ≡ line ∷ lines
    → Adds line before after → all ≡ edits_behind after lines
edits_more all before after old lines line read is adds = read ∙ ap (edits_behind before) is ∙ more before after (line_of line) (edits_in lines) adds

good : (line : Option (List Edit)) (before after : List Edit) → option_map (λ edits. before ++ edits) line ≡ Some after → is_none line ≡ false
good None before after e = cc
good (Some edits) before after e = refl

pub bad_more : (all : Option ℕ) (number : ℕ) (before after : List Edit) (old lines : List Text) (line : Text) → all ≡ bad_behind number old → old ≡ line ∷ lines
    → Adds line before after → all ≡ bad_behind (number + 1) lines
bad_more all number before after old lines line read is adds =
    read ∙ ap (bad_behind number) is ∙ ap (λ b. cond b (Some (number + 1)) (position_from is_bad (number + 1 + 1) lines)) (good (line_of line) before after adds)

-- a line is of no form
pub refused : (script : Text) (number : ℕ) (old lines : List Text) (line : Text) (f : ScriptFault) → bad_line script ≡ bad_behind number old → old ≡ line ∷ lines
    → IsRefusedAt (number + 1) line f → IsRefused script f
refused script number old lines line (fault.NotALine at) read is r =
    read ∙ ap (bad_behind number) is ∙ ap (λ o. cond (is_none o) (Some (number + 1)) (position_from is_bad (number + 1 + 1) lines)) r.1 ∙ ap Some (sym r.0)
refused script number old lines line fault.ScriptTooLong read is r = r
refused script number old lines line fault.NoMemory read is r = tt

-- all lines were read
pub edits_done : (all : Option (List Edit)) (before : List Edit) (old : List Text) → all ≡ edits_behind before old → old ≡ [] → all ≡ Some before
edits_done all before old read is = read ∙ ap (edits_behind before) is ∙ ap Some (append-nil before)

-- The lines spell edits, or one of them is of no form, and not both.
either : (line lines : Option (List Edit)) (number : ℕ) (bad : Option ℕ) → ((edits : List Edit) × (lines ≡ Some edits)) ⊎ ((at : ℕ) × (bad ≡ Some at))
    → ((edits : List Edit) × (both (λ edits l. edits ++ l) line lines ≡ Some edits)) ⊎ ((at : ℕ) × (cond (is_none line) (Some number) bad ≡ Some at))
either None lines number bad rest = inr (number, refl)
either (Some edits) lines number bad (inl (l, e)) = inl (edits ++ l, ap (λ o. option_map (λ m. edits ++ m) o) e)
either (Some edits) lines number bad (inr (at, e)) = inr (at, e)

some_from : (number : ℕ) (lines : List Text) → ((edits : List Edit) × (edits_in lines ≡ Some edits)) ⊎ ((at : ℕ) × (position_from is_bad number lines ≡ Some at))
some_from number [] = inl ([], refl)
some_from number (line ∷ lines) = either (line_of line) (edits_in lines) number (position_from is_bad (number + 1) lines) (some_from (number + 1) lines)

pub some : (script : Text) → ((edits : List Edit) × (edits_of script ≡ Some edits)) ⊎ ((line : ℕ) × (bad_line script ≡ Some line))
unfolding edits_of bad_line
some script = some_from 1 (lines_of script)

neither : (line lines : Option (List Edit)) (number : ℕ) (bad : Option ℕ) → ((edits : List Edit) (at : ℕ) → lines ≡ Some edits → bad ≡ Some at → ⊥)
    → (edits : List Edit) (at : ℕ) → both (λ edits l. edits ++ l) line lines ≡ Some edits → cond (is_none line) (Some number) bad ≡ Some at → ⊥
neither None lines number bad rest edits at e f = cc
neither (Some l) None number bad rest edits at e f = cc
neither (Some l) (Some m) number bad rest edits at e f = rest m at refl f

not_both_from : (number : ℕ) (lines : List Text) (edits : List Edit) (at : ℕ) → edits_in lines ≡ Some edits → position_from is_bad number lines ≡ Some at → ⊥
not_both_from number [] edits at e f = cc
not_both_from number (line ∷ lines) edits at e f =
    neither (line_of line) (edits_in lines) number (position_from is_bad (number + 1) lines) (not_both_from (number + 1) lines) edits at e f

pub not_both : (script : Text) (edits : List Edit) (line : ℕ) → edits_of script ≡ Some edits → bad_line script ≡ Some line → ⊥
unfolding edits_of bad_line
not_both script = not_both_from 1 (lines_of script)
