-- Numbers of which each passes the test of its range.
use Rattle.std.proofs.Common.{◌≡◌, ℕ, List, [], ◌∷◌, All, true, Option, Some, None, option_map, Err, arith, length, map, refl, ap, ◌∙◌}
use Rattle.std.specs.List.{list_all}
use Rattle.std.proofs.lemmas.List.{length-map}
use Rattle.std.proofs.lemmas.List.Sums.{AllPass-from_list_all}
use Rattle.std.specs.Option.{ok_or, option_and_then}
use Rattle.serde_json.specs.Data.{Data, Items}
use Rattle.serde_json.specs.Find.{as_array, get}
use Rattle.serde_json.specs.View.{items_of, items_view, view}
use Rattle.serde_json.specs.declared.value.Value.{Value}
use Rattle.wp_model.specs.Limits.{greatest_length}
use Rattle.wp_model.specs.Warehouse.{IsUpTo}
use Rattle.wp_layout.specs.Keys.{key_text}
use Rattle.wp_layout.specs.LayoutFile.{is_ranged, spacings_ranged, spacings_read, values_of, whole_or_zero, wholes_read}
use Rattle.wp_layout.specs.declared.fault.LayoutFault.TheVariants as fault
use Rattle.wp_layout.specs.declared.key.Key.TheVariants as key
use Rattle.wp_model.specs.Outcomes.{and_then}

in_range : (most n : ℕ) → is_ranged most n ≡ true → IsUpTo most n
in_range most n h = grind arith

-- they are in their range
pub ranged_all : (ns : List ℕ) → list_all (is_ranged greatest_length) ns ≡ true → All (IsUpTo greatest_length) ns
ranged_all ns all = λ k d low. in_range greatest_length _ (AllPass-from_list_all (is_ranged greatest_length) ns all k d low)

-- there are as many numbers as values
pub counted : (values : List Value) → length (map whole_or_zero (map view values)) ≡ length values
counted values = length-map (map view values) whole_or_zero ∙ length-map values view

values_of_items : (values : List Data) → values_of (items_of values) ≡ values
values_of_items [] = refl
values_of_items (d ∷ values) = ap (λ (ds : List Data). d ∷ ds) (values_of_items values)

-- the spacings are those of the values of the list that stands there
pub spacings_by : (value : Data) (aisles : ℕ) (values : List Value) → option_and_then as_array (get (key_text key.Spacings) value) ≡ Some (items_view values) →
    spacings_read value aisles ≡ and_then (wholes_read (map view values)) (spacings_ranged aisles)
spacings_by value aisles values found =
    ap (λ (o : Option Items). and_then (and_then (ok_or (option_map values_of o) (fault.NotWhole key.Spacings)) wholes_read) (spacings_ranged aisles)) found
    ∙ ap (λ (ds : List Data). and_then (wholes_read ds) (spacings_ranged aisles)) (values_of_items (map view values))

-- where no list stands there, it is told
pub spacings_none : (value : Data) (aisles : ℕ) → option_and_then as_array (get (key_text key.Spacings) value) ≡ None →
    spacings_read value aisles ≡ Err (fault.NotWhole key.Spacings)
spacings_none value aisles none =
    ap (λ (o : Option Items). and_then (and_then (ok_or (option_map values_of o) (fault.NotWhole key.Spacings)) wholes_read) (spacings_ranged aisles)) none
