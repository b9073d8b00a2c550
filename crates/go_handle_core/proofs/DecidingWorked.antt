-- What is decided of a package's types, computed.
use Rattle.std.proofs.Common.{refl}
use Rattle.std.specs.Str.{chars}
use Rattle.unicode.specs.GeneralCategory.{general_category}
use Rattle.unicode.specs.Rows.{value_in}
use Rattle.ucd_category.specs.GeneralCategoryRows.{general_category_rows}
use Rattle.go_denote_core.specs.text_core.Text.{uppercase}
use Rattle.go_handle_core.specs.deciding.Worked.{WorkedTypes, WorkedMembers}

pub types_worked : WorkedTypes
unfolding uppercase general_category value_in general_category_rows chars
types_worked =
    record {
      own_names = refl;
      other_names = refl;
      name_and_literal = refl;
      tags = refl;
      but_for_tags = refl;
      hidden_fields = refl;
      exported_fields = refl;
      embedded_fields = refl;
      fewer_fields = refl;
      pointers = refl;
      more_stars = refl;
      methods_turned = refl;
      other_signature = refl;
      fewer_methods = refl;
      signatures = refl;
      turned_signature = refl;
      error_by_name = refl;
      text_of_label = refl;
      label_of_text = refl;
      untagged = refl;
      pointer_to_untagged = refl;
      named_pointer = refl;
      other_fields = refl;
      none_to_none = refl;
      pointers_to_none = refl;
      pointer_to_error = refl;
      pointer_from_error = refl;
      pointers_through_error = refl;
      pointer_to_other_methods = refl;
      two_stars_to_error = refl;
      label_to_text = refl;
      constant_to_label = refl;
      integer_to_label = refl;
      literal_to_name = refl;
      untagged_to_name = refl;
      pointer_to_name = refl;
      nil_to_interface = refl;
      nil_to_pointer = refl;
      nil_to_struct = refl;
      method_by_pointer = refl;
      method_by_value = refl;
      label_to_error = refl;
      text_to_error = refl;
      error_to_literal = refl;
      boolean_to_any = refl;
      none_to_any = refl;
      none_to_itself = refl;
      struct_form = refl;
      pointer_form = refl;
      basic_form = refl;
      interface_form = refl;
      error_form = refl;
      no_form = refl;
      missing_form = refl;
      parameters = refl;
      results = refl;
    }

pub members_worked : WorkedMembers
unfolding uppercase general_category value_in general_category_rows chars
members_worked =
    record {
      promoted = refl;
      own = refl;
      through_pointer = refl;
      method = refl;
      second_field = refl;
      nearer = refl;
      deeper = refl;
      of_field_name = refl;
      of_interface = refl;
      of_error = refl;
      behind_name = refl;
      two = refl;
      none = refl;
      none_in_circle = refl;
      of_other_package = refl;
      no_type = refl;
      two_stars = refl;
      star_of_interface = refl;
      method_behind_name = refl;
      blank = refl;
      by_value = refl;
      by_pointer = refl;
      by_star = refl;
      by_interface = refl;
      errors = refl;
      no_errors = refl;
      two_methods = refl;
      one_lacking = refl;
      of_own_package = refl;
      other_signature = refl;
      chosen_field = refl;
      chosen_method = refl;
      refused = refl;
    }
