use Rattle.std.proofs.Common.{◌≡◌, ◌∷◌, ◌==◌, ◌||◌, ◌∙◌, ap, codes, Bool, List, ℕ, Some, false, if◌then◌else◌}
use Rattle.std.specs.Prelude.{bytes_eq}
use Rattle.std.specs.Option.{option_map, option_map_or}
use Rattle.nif_base.specs.declared.orders.Order.TheVariants.{Little, Big}
use Rattle.nif_layout.specs.PathValue.{number_in}
use Rattle.nif_file.specs.Head.{inner_number}
use Rattle.nif_file.proofs.HeadMembers.{kept_behind, some_behind, pair_behind}
use Rattle.nif_file.proofs.heads.Head.add.Goals as goal

-- a test of the name
tested : (wanted given name : List ℕ) (answer : Bool) → answer ≡ bytes_eq given name → given ≡ wanted → answer ≡ bytes_eq wanted name
tested wanted given name answer e g = e ∙ ap (λ w. bytes_eq w name) g

pub returns : goal.returns
returns c = λ S E earlier f at h named number inside.
    let A = earlier ∷ E in
    let name = c.args.name.now in
    let old = c.args.self.now in
    let n = c.args.number in
    let user = tested (codes "User Version") c.as_slice.result.now name c.is_name.result c.is_name.ensures c.as_slice.ensures in
    let second = tested (codes "User Version 2") c.as_slice-2.result.now name c.is_name-2.result c.is_name-2.ensures c.as_slice-2.ensures in
    let inner = tested (codes "BS Header") c.as_slice-3.result.now name c.is_name-3.result c.is_name-3.ensures c.as_slice-3.ensures in
    let order = tested (codes "Endian Type") c.as_slice-4.result.now name c.is_name-4.result c.is_name-4.ensures c.as_slice-4.ensures in
    let blocks = tested (codes "Num Blocks") c.as_slice-5.result.now name c.is_name-5.result c.is_name-5.ensures c.as_slice-5.ensures in
    let strings = tested (codes "Num Strings") c.as_slice-6.result.now name c.is_name-6.result c.is_name-6.ensures c.as_slice-6.ensures in
    let index = tested (codes "Block Type Index") c.as_slice-7.result.now name c.is_name-7.result c.is_name-7.ensures c.as_slice-7.ensures in
    let types = tested (codes "Num Block Types") c.as_slice-8.result.now name c.is_name-8.result c.is_name-8.ensures c.as_slice-8.ensures in
    let names = tested (codes "Block Types") c.as_slice-9.result.now name c.is_name-9.result c.is_name-9.ensures c.as_slice-9.ensures in
    record {
      version = h.version;
      user = kept_behind (λ o. option_map_or (number_in false) o 0) (codes "User Version") name f at A old.user c.latest-self.result n named h.user number
          (c.latest-self.ensures ∙ ap (λ b. if b then n else old.user) user);
      second = kept_behind (option_map (number_in false)) (codes "User Version 2") name f at A old.second c.latest_present-self.result (Some n) named h.second (ap Some number)
          (c.latest_present-self.ensures ∙ ap (λ b. if b then Some n else old.second) second);
      inner = pair_behind (inner_number S (codes "BS Version")) (codes "BS Header") name f at A old.inner c.latest-self-2.result c.args.inner named h.inner inside
          (c.latest-self-2.ensures ∙ ap (λ b. if b then c.args.inner else old.inner) inner);
      order = kept_behind (λ o. option_map_or (λ at. if number_in false at == 0 then Big else Little) o Little) (codes "Endian Type") name f at A old.order c.latest_order-self.result (if n == 0 then Big else Little) named h.order
          (ap (λ k. if k == 0 then Big else Little) number) (c.latest_order-self.ensures ∙ ap (λ b. if b then (if n == 0 then Big else Little) else old.order) order);
      blocks = kept_behind (λ o. option_map_or (number_in false) o 0) (codes "Num Blocks") name f at A old.blocks c.latest-self-3.result n named h.blocks number
          (c.latest-self-3.ensures ∙ ap (λ b. if b then n else old.blocks) blocks);
      strings = kept_behind (λ o. option_map_or (number_in false) o 0) (codes "Num Strings") name f at A old.strings c.latest-self-4.result n named h.strings number
          (c.latest-self-4.ensures ∙ ap (λ b. if b then n else old.strings) strings);
      index = ap (λ b. old.has_index || b) index ∙ some_behind (codes "Block Type Index") name f at A old.has_index named h.index;
      types = ap (λ b. old.has_types || b) types ∙ some_behind (codes "Num Block Types") name f at A old.has_types named h.types;
      names = ap (λ b. old.has_names || b) names ∙ some_behind (codes "Block Types") name f at A old.has_names named h.names;
    }
