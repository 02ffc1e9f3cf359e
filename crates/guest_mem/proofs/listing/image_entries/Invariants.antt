use Rattle.std.proofs.Common.{◌≡◌, ◌+◌, ◌≤◌, length, map, take, vec_capacity}
use Rattle.std.specs.List.{range_with_len}
use Rattle.guest_mem.specs.inside.Pages.{of_image}
use Rattle.guest_mem.specs.inside.Slots.{page_of, shared_bytes, slots}
use Rattle.guest_mem.proofs.listing.image_entries.Given as goal

abbrev pub invariant-loop-page : goal.invariant-loop-page
invariant-loop-page l =
    record {
      pages : map (page_of (shared_bytes l.shared)) l.entries.items ≡ map of_image (take l.page-index l.shared.pages.items);
      slots : slots l.entries.items ≡ range_with_len 1 l.page-index;
      room : length l.shared.pages.items + l.more ≤ vec_capacity l.entries;
    }
