-- A name, or an entry, that was read and is refused.
use Rattle.std.proofs.Common.{◌≡◌, ◌+◌, ◌≤◌, ℕ, Option, Some, List, [], ◌++◌, inr, length, sym, subst, arith}
use Rattle.nif_base.specs.declared.orders.Order.{Order}
use Rattle.nif_schema.specs.Declaration.{Name}
use Rattle.nif_schema.specs.Schema.{Schema}
use Rattle.nif_stream.specs.declared.takers.Taker.{Taker}
use Rattle.nif_stream.specs.Taking.{Takes, place_of}
use Rattle.nif_layout.specs.Earlier.{Env}
use Rattle.nif_base.specs.Limits.{most_nodes}
use Rattle.nif_layout.specs.Fault.{Point, Passes}
use Rattle.nif_decode.specs.Answers.{IsReadyTaker}
use Rattle.nif_file.specs.declared.faults.FileFault.{FileFault}
use Rattle.nif_file.specs.Head.{index_word, order_in}
use Rattle.nif_file.specs.Files.{sized_string}
use Rattle.nif_file.specs.FileFails.{NameFails, TypeFails, TypeFailsBy}
use Rattle.nif_file_reader.specs.Halting.{Halts}
use Rattle.nif_file_reader.specs.Types.{RefusesName}
use Rattle.nif_file_reader.proofs.Going.{takes_none}
use Rattle.nif_file_reader.proofs.Halting.{halts_known, passes_taken}
use Rattle.nif_file_reader.proofs.TypeLaws.{RefusesEntry}

module _ {T : Type 0} (left : T → Option (List ℕ)) (still : T → T → Type 0) (faults : T → ℕ) (S : Schema) (E : Env) (block : ℕ) where
  pub name_refused : (order : Order) (nodes : ℕ) (old new : Taker T) (name : Name) (fault : FileFault) → nodes ≤ most_nodes → order_in E ≡ order → Takes left still faults old (sized_string order name) new
      → RefusesName S block name fault → Halts left still faults (λ total. NameFails S total E block) nodes old new fault
  name_refused order nodes old new name fault few e t r =
      halts_known left still faults (λ total. NameFails S total E block) nodes (place_of new) (sized_string order name) old new fault t r.0 (omega arith)
      (λ m rest told.
      let p = passes_taken (place_of old) (place_of new) nodes 0 (sized_string order name) rest t.place t.within (omega arith) in
      let next : Point = record { nodes = nodes + 0; place = place_of new; left = rest } in
      let q = subst (λ (o : Order). Passes (sized_string o name) 0 (record { nodes = nodes; place = place_of old; left = sized_string order name ++ rest }) next) (sym e) p in
      inr (name, next, q, r.1 m (place_of new)))

  pub entry_halts : (word nodes : ℕ) (taker : Taker T) (fault : FileFault) → index_word E block ≡ Some word → IsReadyTaker taker → RefusesEntry S E block word fault → Halts left still faults (λ total. TypeFails S total E block) nodes taker taker fault
  entry_halts word nodes taker fault some ready r =
      halts_known left still faults (λ total. TypeFails S total E block) nodes (place_of taker) [] taker taker fault (takes_none left still faults taker ready) r.0 (omega arith)
      (λ m rest told. subst (λ (o : Option ℕ). TypeFailsBy o S (place_of taker + length ([] ++ rest)) E block (record { nodes = nodes; place = place_of taker; left = [] ++ rest }) (record { fault = fault; known = place_of taker })) (sym some)
      (r.1 m (place_of taker)))
