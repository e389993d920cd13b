-- `image_put::put_tag` meets its contract: the tag's fields are words.
use Rattle.std.proofs.Common.{◌≡◌, length, take, refl, sym, ap, ◌∙◌, arith}
use Rattle.std.proofs.lemmas.List.Edits.{sets}
use Rattle.std.proofs.Math.ListN.{length-take}
use Rattle.metric_rules.specs.Row.{row_width}
use Rattle.metric_rules.proofs.Values.{is_row}
use Rattle.lists.specs.Lists.{total}
use Rattle.image_rules.specs.Bytes.{tag_fields, tag_words, tag_bytes}
use Rattle.image_put.proofs.Stores.{word_bytes}
use Rattle.image_put.proofs.put_tag.Goals as goal

pub put_words-requires : goal.put_words-requires
unfolding row_width tag_bytes tag_fields total
put_words-requires c = omega (arith, c.requires, length-take 2 c.args.row)

pub returns : goal.returns
unfolding tag_words tag_fields row_width
returns c =
    let a = c.args in
    let words = take 2 a.row in
    let long : length words ≡ 2 = omega (arith, length-take 2 a.row, (is_row a.row _ c.well_formed.1.1.0).width) in
    c.put_words.ensures ∙ ap (sets a.image.now a.at) (sym (word_bytes tag_fields words long (refl, (refl, tt))))
