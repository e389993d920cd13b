-- What is known of an image when its sizes and its slots are read: its header, and where its parts stand.
use Rattle.std.specs.Prelude.{ℕ, ◌+◌, ◌*◌, ◌≤◌, ◌≡◌, true, List, length}
use Rattle.table_rules.specs.Geometry.{most_order}
use Rattle.table_rules.specs.Checks.{sizes_pass}
use Rattle.image_rules.specs.Bytes.{tag_bytes, sizes_end, image_length}
use Rattle.image_rules.specs.Read.{form_in, order_in, space_in, built_in, live_in, slots_in}
use Rattle.image_form.specs.declared.Form.{Form}
use Rattle.image_read.specs.declared.Start.{Start}
use Rattle.image_read.specs.declared.Header.{Header}

-- the numbers that an image begins with
pub record Started (image : List ℕ) (start : Start) : Type 0 where
  pub order : start.order ≡ order_in image
  pub metric : start.metric ≡ (space_in image).metric
  pub form : start.form ≡ form_in image

-- a header has an image's order, space and form
pub record Headed (image : List ℕ) (header : Header) : Type 0 where
  pub order : header.order.t ≡ order_in image
  pub space : header.space ≡ space_in image
  pub form : header.form.number ≡ form_in image

-- the image is of this form, and has the sizes of the buckets up to k
pub record HasSizes (image : List ℕ) (form : Form) (k : ℕ) : Type 0 where
  pub formed : form.number ≡ form_in image
  pub long : sizes_end (form_in image) k ≤ length image

-- its sizes pass, and it is as long as they say
pub record Whole (image : List ℕ) (header : Header) : Type 0 where
  pub headed : Headed image header
  pub order : order_in image ≤ most_order
  pub sizes : sizes_pass (order_in image) (built_in image) (live_in image) ≡ true
  pub long : length image ≡ image_length (form_in image) (order_in image) (slots_in image)

-- slots that stand in an image, which is as long as its sizes say, with the places of its tags and of its records
pub record InImage (image : List ℕ) (form : Form) (tags records first count : ℕ) : Type 0 where
  pub formed : form.number ≡ form_in image
  pub tags_at : tags ≡ sizes_end (form_in image) (order_in image)
  pub records_at : records ≡ tags + tag_bytes * slots_in image
  pub whole : length image ≡ image_length (form_in image) (order_in image) (slots_in image)
  pub within : first + count ≤ slots_in image
