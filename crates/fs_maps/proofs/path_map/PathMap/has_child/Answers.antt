use Rattle.std.proofs.Common.{◌≡◌, true, false, [], ◌∷◌, refl, sym, ◌∙◌, ap, subst, rules}
use Rattle.std.specs.Prelude.{is_some}
use Rattle.std.specs.declared.ops.Bound.TheVariants.{Included, Unbounded}
use Rattle.std.specs.BTreeMap.Range.{entries_between}
use Rattle.std.specs.List.{filter_map, cons_option}
use Rattle.std.specs.Map.{keys_of}
use Rattle.std.specs.FinMap as map
use Rattle.fs_model.specs.Names.{path_cmp, is_under}
use Rattle.fs_model.specs.Calls.{child_name}
use Rattle.fs_maps.proofs.Subtrees.{IsRest, range_rest, rest_tail, rest_none, none_of, names_of_map, has_name, has_first}
use Rattle.fs_maps.proofs.path_map.PathMap.has_child.Goals as goal

pub loop-path-init : goal.loop-path-init
loop-path-init g c =
    let dir = c.args.dir.now in
    let es = c.self.inside.entries.entries in
    let given : c.into_iter-path-iterator.result ≡ entries_between path_cmp (Included dir) Unbounded es = c.into_iter-path-iterator.ensures.into_iter_gives ∙ c.range-path-items.ensures.between tt in
    record { names = refl; rest = subst (λ es. IsRest dir (keys_of es)) (sym given) (range_rest dir es c.range-path-items.ensures.ordered) }

pub loop-path-preserved : goal.loop-path-preserved
loop-path-preserved g c =
    let dir = c.args.dir.now in
    let path = c.in-Some.path.now in
    let others = keys_of c.next.new.self in
    let step : keys_of c.loop-path.path-iterator ≡ path ∷ others = ap keys_of c.in-Some.ensures.steps in
    let none : is_some (child_name dir path) ≡ false = search rules in
    record {
      names = sym (ap (λ name. cons_option name (filter_map (child_name dir) others)) (none_of (child_name dir path) none)) ∙ sym (ap (filter_map (child_name dir)) step)
          ∙ c.loop-path.invariant.names;
      rest = rest_tail dir path others (subst (IsRest dir) step c.loop-path.invariant.rest);
    }

pub returns-then-is_child : goal.returns-then-is_child
returns-then-is_child g c =
    let dir = c.args.dir.now in
    let es = c.self.inside.entries.entries in
    let given : c.into_iter-path-iterator.result ≡ entries_between path_cmp (Included dir) Unbounded es = c.into_iter-path-iterator.ensures.into_iter_gives ∙ c.range-path-items.ensures.between tt in
    let path = c.in-Some.path.now in
    let others = keys_of c.next.new.self in
    let step : keys_of c.loop-path.path-iterator ≡ path ∷ others = ap keys_of c.in-Some.ensures.steps in
    let whole : filter_map (child_name dir) (keys_of c.into_iter-path-iterator.result) ≡ filter_map (child_name dir) (map.keys c.args.self.now) =
    ap (λ es. filter_map (child_name dir) (keys_of es)) given ∙ names_of_map dir es c.args.self.now c.range-path-items.ensures.ordered c.self.view_is in
    let some : is_some (child_name dir path) ≡ true = search rules in
    has_first dir (map.keys c.args.self.now) path others some (sym (ap (filter_map (child_name dir)) step) ∙ c.loop-path.invariant.names ∙ whole)

pub returns-then-not-is_under : goal.returns-then-not-is_under
returns-then-not-is_under g c =
    let dir = c.args.dir.now in
    let es = c.self.inside.entries.entries in
    let given : c.into_iter-path-iterator.result ≡ entries_between path_cmp (Included dir) Unbounded es = c.into_iter-path-iterator.ensures.into_iter_gives ∙ c.range-path-items.ensures.between tt in
    let path = c.in-Some.path.now in
    let others = keys_of c.next.new.self in
    let step : keys_of c.loop-path.path-iterator ≡ path ∷ others = ap keys_of c.in-Some.ensures.steps in
    let out : is_under dir path ≡ false = search rules in
    let none : filter_map (child_name dir) (keys_of c.loop-path.path-iterator) ≡ [] =
    ap (filter_map (child_name dir)) step ∙ rest_none dir path others (subst (IsRest dir) step c.loop-path.invariant.rest) out in
    let whole : filter_map (child_name dir) (keys_of c.into_iter-path-iterator.result) ≡ filter_map (child_name dir) (map.keys c.args.self.now) =
    ap (λ es. filter_map (child_name dir) (keys_of es)) given ∙ names_of_map dir es c.args.self.now c.range-path-items.ensures.ordered c.self.view_is in
    has_name dir (map.keys c.args.self.now) [] (sym none ∙ c.loop-path.invariant.names ∙ whole)

pub returns : goal.returns
returns g c =
    let dir = c.args.dir.now in
    let es = c.self.inside.entries.entries in
    let given : c.into_iter-path-iterator.result ≡ entries_between path_cmp (Included dir) Unbounded es = c.into_iter-path-iterator.ensures.into_iter_gives ∙ c.range-path-items.ensures.between tt in
    let whole : filter_map (child_name dir) (keys_of c.into_iter-path-iterator.result) ≡ filter_map (child_name dir) (map.keys c.args.self.now) =
    ap (λ es. filter_map (child_name dir) (keys_of es)) given ∙ names_of_map dir es c.args.self.now c.range-path-items.ensures.ordered c.self.view_is in
    has_name dir (map.keys c.args.self.now) [] (sym (ap (λ es. filter_map (child_name dir) (keys_of es)) c.in-None.ensures.steps.0) ∙ c.loop-path.invariant.names ∙ whole)
