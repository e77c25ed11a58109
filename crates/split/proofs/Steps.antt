-- What the proofs of `split` cite: the laws of the files beside this one, one for each return, call or need.
use borrow.Author.Rules.{rules}
use Rattle.split.proofs.Counting.{parts_one, parts_fit, parts_more}
use Rattle.split.proofs.Judging.{refused_buffer, refused_reference, refused_unformed, refused_long, refused_number, judged_total, refused_page_buffer, refused_identifier, refused_unformed_page, refused_long_page, refused_page_number, judged_pages, message_refused, message_written, page_refused, page_written_lem, message_ready, page_ready}
use Rattle.split.proofs.Headers.{udhl_first, udhl_later, counted_put, wide_fits, narrow_fits, single_header_put, wide_header_put, narrow_header_put}
use Rattle.split.proofs.Cutting.{from_one, product_fits, from_fits, from_later, cut_rest, cut_full, whole_octets, cut_octets, ready_begins, user_data_fit, user_data_stands}
use Rattle.split.proofs.Paging.{page_head_put, own_short}

pub ruleset steps = (
  rules,
  parts_one,
  parts_fit,
  parts_more,
  refused_buffer,
  refused_reference,
  refused_unformed,
  refused_long,
  refused_number,
  judged_total,
  refused_page_buffer,
  refused_identifier,
  refused_unformed_page,
  refused_long_page,
  refused_page_number,
  judged_pages,
  udhl_first,
  udhl_later,
  counted_put,
  wide_fits,
  narrow_fits,
  single_header_put,
  wide_header_put,
  narrow_header_put,
  from_one,
  product_fits,
  from_fits,
  from_later,
  cut_rest,
  cut_full,
  whole_octets,
  cut_octets,
  ready_begins,
  user_data_fit,
  user_data_stands,
  page_head_put,
  own_short,
  message_refused,
  message_written,
  page_refused,
  page_written_lem,
  message_ready,
  page_ready,
)
