-- Rows of rows.
use Rattle.std.proofs.Common.{◌≡◌, ℕ, Bool, List, Option, subst}
use Rattle.nif_base.specs.Node.{Node, Members}
use Rattle.nif_schema.specs.Declaration.{Field}
use Rattle.nif_layout.specs.Form.{Form, row_of, width_at}
use Rattle.nif_layout.specs.Shape.{Shape, IsForm}
use Rattle.nif_layout.specs.Fails.{Fails, FormFails}
use Rattle.nif_scope.specs.declared.settings.Setting.{Setting}
use Rattle.nif_scope.specs.declared.entries.Entry.{Entry}
use Rattle.nif_scope.specs.declared.forms.Kind.{Kind}
use Rattle.nif_scope.specs.Scope.{Tells, context_in, earlier, kind_of, width_of}
use Rattle.nif_decode.specs.Faults.{Cause}
use Rattle.nif_decode.specs.Answers.{Stand, Ceases}

-- what row i is, as long as the `width` of a field says behind these members
abbrev pub row_form : Setting → Field → Kind → Bool → Members → ℕ → Form
row_form at f kind run held i = row_of run (kind_of at.schema.now kind) (width_of (width_at at.schema.now (context_in at) (earlier at held) at.arg) f.width i)

-- row i, behind whichever members these entries are of
abbrev pub IsRowOf : Setting → Field → Kind → Bool → ℕ → List Entry → ℕ → Node → Type 0
IsRowOf at f kind run d entries i node = (held : Members) → Tells at entries held → IsForm (Shape at.schema.now (context_in at) d) (row_form at f kind run held i) node

-- how long row i is
abbrev pub IsLength : Setting → Field → List Entry → ℕ → ℕ → Type 0
IsLength at f entries i width = (held : Members) → Tells at entries held → width ≡ width_of (width_at at.schema.now (context_in at) (earlier at held) at.arg) f.width i

-- a row of this length is row i
pub row_is : (at : Setting) (f : Field) (kind : Kind) (run : Bool) (d : ℕ) (entries : List Entry) (i width : ℕ) (node : Node)
    → IsLength at f entries i width → IsForm (Shape at.schema.now (context_in at) d) (row_of run (kind_of at.schema.now kind) width) node → IsRowOf at f kind run d entries i node
row_is at f kind run d entries i width node w is held tells =
    subst (λ n. IsForm (Shape at.schema.now (context_in at) d) (row_of run (kind_of at.schema.now kind) n) node) (w held tells) is

-- a row of this length fails as row i does
pub row_ceases : {S : Type 0} (left : S → Option (List ℕ)) (still : S → S → Type 0) (faults : S → ℕ) (at : Setting) (f : Field) (kind : Kind) (run : Bool) (d : ℕ) (entries : List Entry) (i width : ℕ) (old new : Stand S) (why : Cause) (held : Members)
    → IsLength at f entries i width → Tells at entries held
    → Ceases left still faults (FormFails (context_in at).order (Shape at.schema.now (context_in at) d) (Fails at.schema.now (context_in at) d) (row_of run (kind_of at.schema.now kind) width)) old new why
    → Ceases left still faults (FormFails (context_in at).order (Shape at.schema.now (context_in at) d) (Fails at.schema.now (context_in at) d) (row_form at f kind run held i)) old new why
row_ceases left still faults at f kind run d entries i width old new why held w tells c =
    subst (λ n. Ceases left still faults (FormFails (context_in at).order (Shape at.schema.now (context_in at) d) (Fails at.schema.now (context_in at) d) (row_of run (kind_of at.schema.now kind) n)) old new why) (w held tells) c
