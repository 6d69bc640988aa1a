-- The text of a run is the lines of its records and the closing lines.
use Rattle.std.proofs.Common.{◌≡◌, ℕ, length}
use lib.ListN.{replicate, length-replicate}
use Rattle.listing_text.proofs.RunLaws.{prefix_inside, prefix_length, prefix_recorded, end_room, run_put}
use Rattle.listing_text.proofs.put_run.Goals as goal

-- the output and the trace that a listing has room for
out_length : length (replicate {A = ℕ} 8192 0) ≡ 8192
out_length = length-replicate {A = ℕ} 8192 0

trace_length : length (replicate {A = ℕ} 256 0) ≡ 256
trace_length = length-replicate {A = ℕ} 256 0

pub slice_bounds-out-end : goal.slice_bounds-out-end
slice_bounds-out-end c = prefix_inside c.run-r.ensures out_length trace_length c.position_of-written.ensures

pub slice_bounds-put_records-end : goal.slice_bounds-put_records-end
slice_bounds-put_records-end c = prefix_length c.run-r.ensures out_length trace_length c.position_of-written.ensures

pub put_records-requires-clause-records : goal.put_records-requires-clause-records
put_records-requires-clause-records c = prefix_recorded c.run-r.ensures out_length trace_length c.position_of-written.ensures

pub put_end-requires-clause-room : goal.put_end-requires-clause-room
put_end-requires-clause-room c = end_room c.run-r.ensures out_length trace_length c.position_of-written.ensures c.put_records.ensures c.requires

pub returns : goal.returns
returns c = run_put c.run-r.ensures out_length trace_length c.position_of-written.ensures c.put_records.ensures c.put_end.ensures
