pub mod QueueId
