pub mod Batches
pub mod BucketCount
pub mod Queues
pub mod Rings
